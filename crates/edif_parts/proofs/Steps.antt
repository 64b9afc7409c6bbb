-- A step of a loop over forms: those before the next one, and those of one keyword.
use Rattle.std.proofs.Common.{◌≡◌, ◌≤◌, ◌+◌, ℕ, zero, suc, List, [], ◌∷◌, ◌++◌, length, refl, sym, ap, ◌∙◌, subst, inl, true, false, append-nil, append_assoc, Some, arith}
use Rattle.std.specs.Prelude.{cond, drop, slice_get}
use Rattle.std.proofs.lemmas.List.Elements.{filter-append}
use Rattle.netlist_schema.proofs.Lists.{drop_next}
use Rattle.edif_spelling_spec.specs.Tree.{Placed, bare}
use Rattle.edif_spec.specs.Rows.{has_keyword}
use Rattle.edif_spec.specs.Faults.{AtOne, Among, those_of}
use Rattle.edif_spec.specs.declared.keyword.Keyword.{Keyword}
use Rattle.edif_spec.specs.declared.fault.MeaningFault.{MeaningFault}
use Rattle.edif_spec.proofs.FaultPlaces.{one_later}

-- those of a keyword, with one more form
pub those_here : (k : Keyword) (xs ys : List Placed) (t : Placed) → has_keyword k (bare t) ≡ true → those_of k (xs ++ t ∷ ys) ≡ those_of k xs ++ t ∷ those_of k ys
those_here k xs ys t h = filter-append (λ u. has_keyword k (bare u)) xs (t ∷ ys) ∙ ap (λ b. those_of k xs ++ cond b (t ∷ those_of k ys) (those_of k ys)) h

pub those_keep : (k : Keyword) (xs : List Placed) (t : Placed) → has_keyword k (bare t) ≡ true → those_of k (xs ++ t ∷ []) ≡ those_of k xs ++ t ∷ []
those_keep k xs t h = those_here k xs [] t h

pub those_skip : (k : Keyword) (xs : List Placed) (t : Placed) → has_keyword k (bare t) ≡ false → those_of k (xs ++ t ∷ []) ≡ those_of k xs
those_skip k xs t h = filter-append (λ u. has_keyword k (bare u)) xs (t ∷ []) ∙ (ap (λ b. those_of k xs ++ cond b (t ∷ []) []) h ∙ append-nil (those_of k xs))

-- the whole, where the next form is the first of those that are left
pub stepped : (ts before us rest : List Placed) (t : Placed) → ts ≡ before ++ us → us ≡ t ∷ rest → ts ≡ (before ++ t ∷ []) ++ rest
stepped ts before us rest t e f = e ∙ ap (λ v. before ++ v) f ∙ sym (append_assoc before (t ∷ []) rest)

-- the whole, where none is left
pub ended : (ts before us : List Placed) → ts ≡ before ++ us → us ≡ [] → before ≡ ts
ended ts before us e f = sym (e ∙ ap (λ v. before ++ v) f ∙ append-nil before)

pub here_first : (k : Keyword) (ts before us rest : List Placed) (t : Placed) → ts ≡ before ++ us → us ≡ t ∷ rest → has_keyword k (bare t) ≡ true → those_of k ts ≡ those_of k before ++ t ∷ those_of k rest
here_first k ts before us rest t e f h = ap (those_of k) (e ∙ ap (λ v. before ++ v) f) ∙ those_here k before rest t h

-- a fault of the next form is among all of its keyword
pub fault_here : (F : Placed → MeaningFault → Type 0) (k : Keyword) (ts before us rest : List Placed) (t : Placed) (f : MeaningFault) → ts ≡ before ++ us → us ≡ t ∷ rest → has_keyword k (bare t) ≡ true → F t f → Among F (those_of k ts) f
fault_here F k ts before us rest t f e g h b =
    let P : List Placed → Type 0 = λ v. AtOne (λ u. F u f) v in
    subst P (sym (here_first k ts before us rest t e g h)) (one_later (λ u. F u f) (those_of k before) (t ∷ those_of k rest) (inl b))

-- those of a keyword from a place on, where the form there has it or not
pub those_first : (k : Keyword) (ts : List Placed) (i : ℕ) (t : Placed) → slice_get ts i ≡ Some t → has_keyword k (bare t) ≡ true → those_of k (drop i ts) ≡ t ∷ those_of k (drop (i + 1) ts)
those_first k ts i t g h = ap (those_of k) (drop_next ts i t g) ∙ ap (λ b. cond b (t ∷ those_of k (drop (i + 1) ts)) (those_of k (drop (i + 1) ts))) h

pub those_passed : (k : Keyword) (ts : List Placed) (i : ℕ) (t : Placed) → slice_get ts i ≡ Some t → has_keyword k (bare t) ≡ false → those_of k (drop i ts) ≡ those_of k (drop (i + 1) ts)
those_passed k ts i t g h = ap (those_of k) (drop_next ts i t g) ∙ ap (λ b. cond b (t ∷ those_of k (drop (i + 1) ts)) (those_of k (drop (i + 1) ts))) h

-- nothing stands from the end on
pub drop_end : (ts : List Placed) (i : ℕ) → length ts ≤ i → drop i ts ≡ []
drop_end [] zero l = refl
drop_end [] (suc i) l = refl
drop_end (t ∷ ts) zero l = absurd (omega arith)
drop_end (t ∷ ts) (suc i) l = drop_end ts i (omega arith)

-- those counted, and those of a keyword from a place on, are all, where the form there has it or not
pub counted_first : (k : Keyword) (ts : List Placed) (i n : ℕ) (t : Placed) → slice_get ts i ≡ Some t → has_keyword k (bare t) ≡ true → n + length (those_of k (drop i ts)) ≡ length (those_of k ts) → (n + 1) + length (those_of k (drop (i + 1) ts)) ≡ length (those_of k ts)
counted_first k ts i n t g h e = omega (arith, ap length (those_first k ts i t g h))

pub counted_passed : (k : Keyword) (ts : List Placed) (i n : ℕ) (t : Placed) → slice_get ts i ≡ Some t → has_keyword k (bare t) ≡ false → n + length (those_of k (drop i ts)) ≡ length (those_of k ts) → n + length (those_of k (drop (i + 1) ts)) ≡ length (those_of k ts)
counted_passed k ts i n t g h e = omega (arith, ap length (those_passed k ts i t g h))

-- all are counted where none is left
pub counted_all : (k : Keyword) (ts : List Placed) (i n : ℕ) → length ts ≤ i → n + length (those_of k (drop i ts)) ≡ length (those_of k ts) → n ≡ length (those_of k ts)
counted_all k ts i n l e = omega (arith, ap (λ v. length (those_of k v)) (drop_end ts i l))
