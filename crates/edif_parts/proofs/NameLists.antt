-- The names that a list of forms defines, as the list grows: one that repeats is a fault, and all that differ are distinct.
use Rattle.std.proofs.Common.{◌≡◌, ◌≢◌, ℕ, zero, suc, ◌<◌, List, [], ◌∷◌, ◌++◌, map, length, refl, sym, ap, ◌∙◌, inl, inr, Some, arith, get_or, subst}
use Rattle.std.specs.Prelude.{slice_get}
use Rattle.std.specs.List.{Contains}
use Rattle.std.proofs.lemmas.List.{map-append}
use Rattle.std.proofs.lemmas.List.Elements.{Contains-get_or}
use Rattle.std.proofs.lemmas.List.Quantifiers.{all_pairs_push}
use Rattle.netlist_schema.specs.Names.{AreDistinct}
use Rattle.edif_spelling_spec.specs.Tree.{Placed}
use Rattle.edif_spec.specs.Faults.{AtOne, AtTwo, SameName, Repeats, defined}
use Rattle.edif_spec.specs.declared.fault.ClashKind.TheVariants.{Duplicate}
use Rattle.edif_spec.specs.declared.fault.MeaningFault.{MeaningFault}
use Rattle.edif_spec.specs.declared.fault.MeaningFault.TheVariants.{Clash}
use Rattle.edif_parts.specs.Names.{ids, Define}

-- a further form defines a further name
pub define_push : (ts : List Placed) (ns : List (List ℕ × ℕ)) (t : Placed) (n : List ℕ × ℕ) → Define ts ns → defined t ≡ Some n → Define (ts ++ t ∷ []) (ns ++ n ∷ [])
define_push [] [] t n h e = (e, tt)
define_push [] (m ∷ ns) t n h e = absurd h
define_push (u ∷ ts) [] t n h e = absurd h
define_push (u ∷ ts) (m ∷ ns) t n h e = (h.0, define_push ts ns t n h.1 e)

-- names alone, with one more
pub ids_push : (ns : List (List ℕ × ℕ)) (name : List ℕ) (place : ℕ) → ids (ns ++ (name, place) ∷ []) ≡ ids ns ++ name ∷ []
ids_push [] name place = refl
ids_push (n ∷ ns) name place = ap (λ v. n.0 ∷ v) (ids_push ns name place)

-- the values that are named, with one more, beside the names with one more
pub ids_named : {A : Type 0} (g : A → List ℕ) (ns : List (List ℕ × ℕ)) (xs : List A) (x : A) (place : ℕ) → ids ns ≡ map g xs → ids (ns ++ (g x, place) ∷ []) ≡ map g (xs ++ x ∷ [])
ids_named g ns xs x place e = ids_push ns (g x) place ∙ (ap (λ v. v ++ g x ∷ []) e ∙ sym (map-append g xs (x ∷ [])))

-- a name that is there: the form that defines it, and its place
found_at : (ts : List Placed) (ns : List (List ℕ × ℕ)) (k : ℕ) (d : List ℕ × ℕ) → k < length ns → Define ts ns → (u : Placed) × (slice_get ts k ≡ Some u) × (defined u ≡ Some (get_or ns k d))
found_at [] [] k d l h = absurd (omega arith)
found_at [] (n ∷ ns) k d l h = absurd h
found_at (t ∷ ts) [] k d l h = absurd h
found_at (t ∷ ts) (n ∷ ns) zero d l h = (t, refl, h.0)
found_at (t ∷ ts) (n ∷ ns) (suc k) d l h = found_at ts ns k d (omega arith) h.1

-- one of the list, and then this one
two_push : {A : Type 0} (R : A → A → Type 0) (xs ys : List A) (k : ℕ) (x y : A) → slice_get xs k ≡ Some x → R x y → AtTwo R (xs ++ y ∷ ys)
two_push R [] ys k x y e r = absurd (cc e)
two_push {A} R (z ∷ xs) ys zero x y e r = let s : z ≡ x = cc e in inl (last xs (let P : A → Type 0 = λ v. R v y in subst P (sym s) r))
  where
    last : (xs : List A) → R z y → AtOne (R z) (xs ++ y ∷ ys)
    last [] r = inl r
    last (w ∷ xs) r = inr (last xs r)
two_push R (z ∷ xs) ys (suc k) x y e r = inr (two_push R xs ys k x y e r)

-- a further form that defines a name that is there
pub name_repeats : (ts : List Placed) (ns : List (List ℕ × ℕ)) (t : Placed) (rest : List Placed) (name : List ℕ) (earlier later : ℕ)
    → Define ts ns → Contains ns (name, earlier) → defined t ≡ Some (name, later) → Repeats (ts ++ t ∷ rest) (Clash Duplicate later earlier)
name_repeats ts ns t rest name earlier later h c e =
    let at = found_at ts ns c.0 (name, earlier) c.1 h in
    let f : MeaningFault = Clash Duplicate later earlier in
    two_push (SameName f) ts rest c.0 at.0 t at.1 (name, earlier, later, at.2 ∙ ap Some c.2, e, refl)

-- no names are distinct, and so are distinct ones with another that is not among them
pub none_distinct : {A : Type 0} → AreDistinct {X = A} []
none_distinct i j d l k = absurd (omega arith)

pub distinct_push : {A : Type 0} (xs : List A) (x : A) → AreDistinct xs → ¬ Contains xs x → AreDistinct (xs ++ x ∷ [])
distinct_push {A} xs x h n = let P : A → Type 0 = λ v. Contains xs v in all_pairs_push (λ x y. x ≢ y) xs x h (λ k d l e. n (subst P e (Contains-get_or xs k d l)))
