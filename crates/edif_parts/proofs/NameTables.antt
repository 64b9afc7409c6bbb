-- A table of names by their definitions, numbered in order.
use Rattle.std.proofs.Common.{◌≡◌, ℕ, zero, suc, ◌+◌, ◌<◌, List, [], ◌∷◌, ◌++◌, Bool, true, false, map, length, refl, sym, ap, ◌∙◌, subst, None, Some, arith, get_or, true≢false, length-append}
use Rattle.std.specs.Prelude.{cond, option_map, slice_get, nat_eq}
use Rattle.std.specs.List.{Contains}
use Rattle.std.proofs.lemmas.Bool.Decides.{nat_tests}
use Rattle.std.proofs.lemmas.List.{map-append}
use Rattle.edif_spec.specs.Means.{equal, meant, Found, Absent, Several}
use Rattle.edif_spec.specs.Means as edif
use Rattle.edif_spec.proofs.FromValid.{equal_says}
use Rattle.edif_names.specs.Scope.{Definition, names, equal_to, Defines, Says}
use Rattle.edif_names.specs.declared.scope.Defined.TheVariants as outcomes
use Rattle.edif_names.specs.declared.scope.Meant.{Meant}
use Rattle.edif_names.specs.declared.scope.Meant.TheVariants as answers
use Rattle.edif_parts.specs.Names.{ids, AreNumbered, DefinesName, Tells}

-- the names of definitions, each with its place
abbrev pub placed : List Definition → List (List ℕ × ℕ)
placed ds = map (λ (d : Definition). (d.name, d.place)) ds

placed_ids : (ds : List Definition) → ids (placed ds) ≡ names ds
placed_ids [] = refl
placed_ids (d ∷ ds) = ap (λ v. d.name ∷ v) (placed_ids ds)

equal_self : (a : List ℕ) → equal a a ≡ true
equal_self [] = refl
equal_self (x ∷ a) = let h : nat_eq x x ≡ true = grind (arith, nat_tests) in rw h (equal_self a)

-- a name that no definition has
absent : (name : List ℕ) (ds : List Definition) → equal_to name ds ≡ None → (k : ℕ) (d : List ℕ) → k < length (ids (placed ds)) → get_or (ids (placed ds)) k d ≡ name → ⊥
absent name [] h k d l e = omega arith
absent name (d ∷ ds) h k n l e = by (equal name d.name) refl (absent name ds) k l e
  where
    by : (b : Bool) → equal name d.name ≡ b → (equal_to name ds ≡ None → (k : ℕ) (d : List ℕ) → k < length (ids (placed ds)) → get_or (ids (placed ds)) k d ≡ name → ⊥)
        → (k : ℕ) → k < length (ids (placed (d ∷ ds))) → get_or (ids (placed (d ∷ ds))) k n ≡ name → ⊥
    by true q rest k l e = let P : Bool → Type 0 = λ v. cond v (Some d) (equal_to name ds) ≡ None in let w = subst P q h in absurd (cc w)
    by false q rest zero l e = let P : List ℕ → Type 0 = λ v. equal name v ≡ false in true≢false (sym (equal_self name) ∙ subst P e q)
    by false q rest (suc k) l e = let P : Bool → Type 0 = λ v. cond v (Some d) (equal_to name ds) ≡ None in rest (subst P q h) k n (omega arith) e

-- a name that some definition has, at its place
present : (name : List ℕ) (place : ℕ) (ds : List Definition) → option_map (λ (d : Definition). d.place) (equal_to name ds) ≡ Some place → Contains (placed ds) (name, place)
present name place [] h = absurd (cc h)
present name place (d ∷ ds) h = by (equal name d.name) refl (present name place ds)
  where
    by : (b : Bool) → equal name d.name ≡ b → (option_map (λ (d : Definition). d.place) (equal_to name ds) ≡ Some place → Contains (placed ds) (name, place)) → Contains (placed (d ∷ ds)) (name, place)
    by true q rest =
        let P : Bool → Type 0 = λ v. option_map (λ (d : Definition). d.place) (cond v (Some d) (equal_to name ds)) ≡ Some place in
        let w = subst P q h in
        let p : d.place ≡ place = cc w in
        let n : name ≡ d.name = equal_says name d.name q in
        (0, omega arith, λ i. (sym n i, p i))
    by false q rest =
        let P : Bool → Type 0 = λ v. option_map (λ (d : Definition). d.place) (cond v (Some d) (equal_to name ds)) ≡ Some place in
        let r = rest (subst P q h) in
        (suc r.0, omega (arith, r.1), r.2)

-- what a definition does to the names
pub added : (old new : List Definition) (name : List ℕ) (id place : ℕ) → Defines old (record { name = name; id = id; place = place }) new outcomes.Added → DefinesName (placed old) name place (placed new) None
added old new name id place h = (
  λ c. absent name old h.0 c.0 name c.1 c.2,
  ap placed h.1 ∙ map-append (λ (d : Definition). (d.name, d.place)) old (record { name = name; id = id; place = place } ∷ []),
)

pub was_there : (old new : List Definition) (name : List ℕ) (id place earlier : ℕ) → Defines old (record { name = name; id = id; place = place }) new (outcomes.Earlier earlier) → DefinesName (placed old) name place (placed new) (Some earlier)
was_there old new name id place earlier h = (present name earlier old h.0, ap placed h.1)

-- the numbers go on
numbered_push : (n : ℕ) (ds : List Definition) (d : Definition) → AreNumbered n ds → d.id ≡ n + length ds → AreNumbered n (ds ++ d ∷ [])
numbered_push n [] d h e = (omega arith, tt)
numbered_push n (x ∷ ds) d h e = (h.0, numbered_push (suc n) ds d h.1 (omega arith))

pub numbered_after : (old new : List Definition) (name : List ℕ) (id place count : ℕ) → AreNumbered 0 old → length old ≡ count → id ≡ count → Defines old (record { name = name; id = id; place = place }) new outcomes.Added → AreNumbered 0 new × (length new ≡ count + 1)
numbered_after old new name id place count h l e d =
    let x : Definition = record { name = name; id = id; place = place } in
    let P : List Definition → Type 0 = λ v. AreNumbered 0 v × (length v ≡ count + 1) in
    subst P (sym d.1) (numbered_push 0 old x h (omega arith), grind (arith, length-append old (x ∷ [])))

-- the number of a definition is its place
number_at : (n : ℕ) (ds : List Definition) (i id : ℕ) → AreNumbered n ds → option_map (λ (d : Definition). d.id) (slice_get ds i) ≡ Some id → n + i ≡ id
number_at n [] i id h e = absurd (cc e)
number_at n (d ∷ ds) zero id h e = let q : d.id ≡ id = cc e in omega (arith, h.0, q)
number_at n (d ∷ ds) (suc i) id h e = let r = number_at (suc n) ds i id h.1 e in omega arith

says_tells : (ds : List Definition) (m : edif.Meant) (r : Meant) → AreNumbered 0 ds → Says ds m r → Tells m r
says_tells ds (Found i) (answers.Found id) h s = let e = number_at 0 ds i id h s in omega arith
says_tells ds (Found i) answers.Absent h s = s
says_tells ds (Found i) answers.Several h s = s
says_tells ds Absent (answers.Found id) h s = s
says_tells ds Absent answers.Absent h s = s
says_tells ds Absent answers.Several h s = s
says_tells ds Several (answers.Found id) h s = s
says_tells ds Several answers.Absent h s = s
says_tells ds Several answers.Several h s = s

pub tells : (ds : List Definition) (name : List ℕ) (r : Meant) → AreNumbered 0 ds → Says ds (meant (names ds) name) r → Tells (meant (ids (placed ds)) name) r
tells ds name r h s =
    let P : List (List ℕ) → Type 0 = λ v. Tells (meant v name) r in
    subst P (sym (placed_ids ds)) (says_tells ds (meant (names ds) name) r h s)
