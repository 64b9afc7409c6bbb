-- What a table by names and a table by lower case say of the definitions of a scope.
use Rattle.std.proofs.Common.{eq-eqb, eqb-true, Result, Ok, Err, ◌≡◌, ℕ, suc, ◌+◌, nat_eq, List, [], ◌∷◌, ◌++◌, Bool, true, false, ◌||◌, ◌&&◌, not, cond, map, refl, sym, ap, ◌∙◌, subst, Option, Some, None, option_map, slice_get, true≢false, arith}
use Rattle.std.specs.List.{list_any, count_by}
use Rattle.std.specs.Map.{lookup}
use Rattle.std.proofs.lemmas.List.Sums.{sum_by-cons}
use Rattle.std.proofs.lemmas.List.{map-append}
use Rattle.std.specs.Prelude.{OnOk}
use Rattle.std.specs.Cmp.Lexicographic.{pointwise}
use Rattle.netlist_schema.proofs.Lists.{same_test}
use Rattle.edif_spec.specs.Keyword.{same}
use Rattle.edif_spec.specs.Means.{equal, first_place, only_place, equal_or, meant}
use Rattle.edif_spec.specs.Means as edif
use Rattle.edif_names.specs.declared.folded.Noted.{Noted}
use Rattle.edif_names.specs.declared.scope.Entry.{Entry}
use Rattle.edif_names.specs.declared.scope.Meant.TheVariants as answers
use Rattle.edif_names.specs.Folded.{Numbered, noted}
use Rattle.edif_names.specs.Scope.{Definition, names, equal_to, Says}

-- the definitions as numbered names
abbrev pub numbers : List Definition → List Numbered
numbers ds = map (λ d. record { name = d.name; id = d.id }) ds

equal_pointwise : (a b : List ℕ) → equal a b ≡ pointwise nat_eq a b
equal_pointwise [] [] = refl
equal_pointwise [] (y ∷ b) = refl
equal_pointwise (x ∷ a) [] = refl
equal_pointwise (x ∷ a) (y ∷ b) = ap (λ v. nat_eq x y && v) (equal_pointwise a b)

module _ {K : Type 0} (f : K → List ℕ) where
  abbrev pub defined : List (K × Entry) → List Definition
  defined es = map (λ e. record { name = f e.0; id = e.1.id; place = e.1.place }) es

  pub numbers_defined : (es : List (K × Entry)) → numbers (defined es) ≡ map (λ e. record { name = f e.0; id = e.1.id }) es
  numbers_defined [] = refl
  numbers_defined (e ∷ es) = ap (λ ns. record { name = f e.0; id = e.1.id } ∷ ns) (numbers_defined es)

  -- the table by names has the equal name
  pub looked : (p : ℕ → ℕ → ℕ) (n : List ℕ) (es : List (K × Entry)) → option_map (λ d. p d.id d.place) (equal_to n (defined es)) ≡ option_map (λ v. p v.id v.place) (lookup (λ k. pointwise nat_eq n (f k)) es)
  looked p n [] = refl
  looked p n (e ∷ es) = by (equal n (f e.0)) (pointwise nat_eq n (f e.0)) (equal_pointwise n (f e.0)) (looked p n es)
    where
      by : (a b : Bool) → a ≡ b → option_map (λ d. p d.id d.place) (equal_to n (defined es)) ≡ option_map (λ v. p v.id v.place) (lookup (λ k. pointwise nat_eq n (f k)) es)
          → option_map (λ d. p d.id d.place) (cond a (Some (record { name = f e.0; id = e.1.id; place = e.1.place })) (equal_to n (defined es)))
          ≡ option_map (λ v. p v.id v.place) (cond b (Some e.1) (lookup (λ k. pointwise nat_eq n (f k)) es))
      by true true e h = refl
      by true false e h = absurd (true≢false e)
      by false true e h = absurd (true≢false (sym e))
      by false false e h = h

  -- one more entry at the end is one more definition, and one more numbered name
  pub one_defined : (es new : List (K × Entry)) (k : K) (v : Entry) → new ≡ es ++ (k, v) ∷ [] → defined new ≡ defined es ++ record { name = f k; id = v.id; place = v.place } ∷ []
  one_defined es new k v h = ap defined h ∙ map-append (λ e. record { name = f e.0; id = e.1.id; place = e.1.place }) es ((k, v) ∷ [])

  abbrev pub numbered : List (K × Entry) → List Numbered
  numbered es = map (λ e. record { name = f e.0; id = e.1.id }) es

  pub one_numbered : (es new : List (K × Entry)) (k : K) (v : Entry) → new ≡ es ++ (k, v) ∷ [] → numbered new ≡ numbered es ++ record { name = f k; id = v.id } ∷ []
  one_numbered es new k v h = ap numbered h ∙ map-append {B = Numbered} (λ e. record { name = f e.0; id = e.1.id }) es ((k, v) ∷ [])

pub on_ok : {T E P : Type 0} (r : Result T E) (x : T) → r ≡ Ok x → OnOk r P → P
on_ok (Ok y) x e h = h
on_ok (Err y) x e h = absurd (cc e)

pub none_of : {A B : Type 0} (g : A → B) (o : Option A) → option_map g o ≡ None → o ≡ None
none_of g None h = refl
none_of g (Some x) h = absurd (cc h)

-- an equal name is at its first place
place_of : (n : List ℕ) (ds : List Definition) (v : ℕ) → option_map (λ d. d.id) (equal_to n ds) ≡ Some v
    → (i : ℕ) × (first_place (equal n) (names ds) ≡ Some i) × (option_map (λ d. d.id) (slice_get ds i) ≡ Some v)
place_of n [] v h = absurd (cc h)
place_of n (d ∷ ds) v h = by (equal n d.name) h (place_of n ds v)
  where
    by : (b : Bool) → option_map (λ d. d.id) (cond b (Some d) (equal_to n ds)) ≡ Some v
        → (option_map (λ d. d.id) (equal_to n ds) ≡ Some v → (i : ℕ) × (first_place (equal n) (names ds) ≡ Some i) × (option_map (λ d. d.id) (slice_get ds i) ≡ Some v))
        → (i : ℕ) × (cond b (Some 0) (option_map (λ i. suc i) (first_place (equal n) (names ds))) ≡ Some i) × (option_map (λ d. d.id) (slice_get (d ∷ ds) i) ≡ Some v)
    by true h later = (0, refl, h)
    by false h later = let r = later h in (suc r.0, ap (option_map (λ i. suc i)) r.1, r.2)

no_place : (n : List ℕ) (ds : List Definition) → equal_to n ds ≡ None → first_place (equal n) (names ds) ≡ None
no_place n [] h = refl
no_place n (d ∷ ds) h = by (equal n d.name) h (no_place n ds)
  where
    by : (b : Bool) → cond b (Some d) (equal_to n ds) ≡ None → (equal_to n ds ≡ None → first_place (equal n) (names ds) ≡ None)
        → cond b (Some 0) (option_map (λ i. suc i) (first_place (equal n) (names ds))) ≡ None
    by true h later = absurd (cc h)
    by false h later = ap (option_map (λ i. suc i)) (later h)

-- what an equal name means
pub says_equal : (n : List ℕ) (ds : List Definition) (v : ℕ) → option_map (λ d. d.id) (equal_to n ds) ≡ Some v → Says ds (meant (names ds) n) (answers.Found v)
says_equal n ds v h = let r = place_of n ds v h in
    subst (λ (m : edif.Meant). Says ds m (answers.Found v)) (sym (ap (λ o. equal_or o (only_place (count_by (same n) (names ds)) (first_place (same n) (names ds)))) r.1)) r.2

meant_same : (n : List ℕ) (ds : List Definition) → equal_to n ds ≡ None → meant (names ds) n ≡ only_place (count_by (same n) (names ds)) (first_place (same n) (names ds))
meant_same n ds h = ap (λ o. equal_or o (only_place (count_by (same n) (names ds)) (first_place (same n) (names ds)))) (no_place n ds h)

more_than_none : (c : ℕ) → nat_eq (1 + c) 0 ≡ false
more_than_none c = by (nat_eq (1 + c) 0) (λ h. let e : 1 + c ≡ 0 = eqb-true (1 + c) 0 h in omega arith)
  where
    by : (b : Bool) → (b ≡ true → ⊥) → b ≡ false
    by true h = absurd (h refl)
    by false h = refl

no_more : (c k : ℕ) → nat_eq (0 + c) k ≡ nat_eq c k
no_more c k = let e : 0 + c ≡ c = omega arith in ap (λ v. nat_eq v k) e

one_alone : (c : ℕ) → nat_eq (1 + c) 1 ≡ nat_eq c 0
one_alone c = same_test (nat_eq (1 + c) 1) (nat_eq c 0)
    (λ h. let e : 1 + c ≡ 1 = eqb-true (1 + c) 1 h in let z : c ≡ 0 = omega arith in eq-eqb c 0 z)
    (λ h. let e : c ≡ 0 = eqb-true c 0 h in let z : 1 + c ≡ 1 = omega arith in eq-eqb (1 + c) 1 z)

count_none : (n : List ℕ) (ds : List Definition) → nat_eq (count_by (same n) (names ds)) 0 ≡ not (list_any (λ m. same n m.name) (numbers ds))
count_none n [] = refl
count_none n (d ∷ ds) = ap (λ v. nat_eq v 0) (sum_by-cons (λ x. cond (same n x) 1 0) d.name (names ds)) ∙ by (same n d.name) (count_none n ds)
  where
    by : (b : Bool) → nat_eq (count_by (same n) (names ds)) 0 ≡ not (list_any (λ m. same n m.name) (numbers ds)) → nat_eq (cond b 1 0 + count_by (same n) (names ds)) 0 ≡ not (b || list_any (λ m. same n m.name) (numbers ds))
    by true h = more_than_none (count_by (same n) (names ds))
    by false h = no_more (count_by (same n) (names ds)) 0 ∙ h

-- nothing noted: no name is the same
pub says_absent : (n : List ℕ) (ds : List Definition) → equal_to n ds ≡ None → noted n (numbers ds) ≡ None → Says ds (meant (names ds) n) answers.Absent
says_absent n ds h e = subst (λ (m : edif.Meant). Says ds m answers.Absent) (sym (meant_same n ds h ∙ ap (only_place (count_by (same n) (names ds))) (none ds e))) tt
  where
    none : (ds : List Definition) → noted n (numbers ds) ≡ None → first_place (same n) (names ds) ≡ None
    none [] e = refl
    none (d ∷ ds) e = by (same n d.name) e (none ds)
      where
        by : (b : Bool) → cond b (Some (record { id = d.id; is_only = not (list_any (λ m. same n m.name) (numbers ds)) })) (noted n (numbers ds)) ≡ None
            → (noted n (numbers ds) ≡ None → first_place (same n) (names ds) ≡ None)
            → cond b (Some 0) (option_map (λ i. suc i) (first_place (same n) (names ds))) ≡ None
        by true e later = absurd (cc e)
        by false e later = ap (option_map (λ i. suc i)) (later e)

-- a first one noted: its place and number, and whether there is one alone
first_noted : (n : List ℕ) (ds : List Definition) (id : ℕ) (b : Bool) → noted n (numbers ds) ≡ Some (record { id = id; is_only = b })
    → (i : ℕ) × (first_place (same n) (names ds) ≡ Some i) × (option_map (λ d. d.id) (slice_get ds i) ≡ Some id) × (nat_eq (count_by (same n) (names ds)) 1 ≡ b)
first_noted n [] id b h = absurd (cc h)
first_noted n (d ∷ ds) id b h = let r = all (same n d.name) h (first_noted n ds id b) in (r.0, r.1, r.2, counted ∙ r.3)
  where
    counted : nat_eq (count_by (same n) (d.name ∷ names ds)) 1 ≡ nat_eq (cond (same n d.name) 1 0 + count_by (same n) (names ds)) 1
    counted = ap (λ v. nat_eq v 1) (sum_by-cons (λ x. cond (same n x) 1 0) d.name (names ds))

    only_of : Option Noted → Bool
    only_of None = false
    only_of (Some r) = r.is_only

    id_of : Option Noted → ℕ
    id_of None = 0
    id_of (Some r) = r.id

    all : (v : Bool) → cond v (Some (record { id = d.id; is_only = not (list_any (λ m. same n m.name) (numbers ds)) })) (noted n (numbers ds)) ≡ Some (record { id = id; is_only = b })
        → (noted n (numbers ds) ≡ Some (record { id = id; is_only = b }) → (i : ℕ) × (first_place (same n) (names ds) ≡ Some i) × (option_map (λ d. d.id) (slice_get ds i) ≡ Some id) × (nat_eq (count_by (same n) (names ds)) 1 ≡ b))
        → (i : ℕ) × (cond v (Some 0) (option_map (λ i. suc i) (first_place (same n) (names ds))) ≡ Some i) × (option_map (λ d. d.id) (slice_get (d ∷ ds) i) ≡ Some id) × (nat_eq (cond v 1 0 + count_by (same n) (names ds)) 1 ≡ b)
    all true h later = (0, refl, ap (λ o. Some (id_of o)) h, one_alone (count_by (same n) (names ds)) ∙ count_none n ds ∙ ap only_of h)
    all false h later = let r = later h in (suc r.0, ap (option_map (λ i. suc i)) r.1, r.2, no_more (count_by (same n) (names ds)) 1 ∙ r.3)

-- one noted that is the only one: it is meant
pub says_only : (n : List ℕ) (ds : List Definition) (id : ℕ) (b : Bool) → b ≡ true → equal_to n ds ≡ None → noted n (numbers ds) ≡ Some (record { id = id; is_only = b }) → Says ds (meant (names ds) n) (answers.Found id)
says_only n ds id b t h e = let r = first_noted n ds id b e in
    subst (λ (m : edif.Meant). Says ds m (answers.Found id))
    (sym (meant_same n ds h ∙ ap (only_place (count_by (same n) (names ds))) r.1 ∙ ap (λ v. cond v (edif.Found r.0) edif.Several) (r.3 ∙ t))) r.2

-- one noted that is not the only one: several are meant
pub says_several : (n : List ℕ) (ds : List Definition) (id : ℕ) (b : Bool) → b ≡ false → equal_to n ds ≡ None → noted n (numbers ds) ≡ Some (record { id = id; is_only = b }) → Says ds (meant (names ds) n) answers.Several
says_several n ds id b t h e = let r = first_noted n ds id b e in
    subst (λ (m : edif.Meant). Says ds m answers.Several)
    (sym (meant_same n ds h ∙ ap (only_place (count_by (same n) (names ds))) r.1 ∙ ap (λ v. cond v (edif.Found r.0) edif.Several) (r.3 ∙ t))) tt
