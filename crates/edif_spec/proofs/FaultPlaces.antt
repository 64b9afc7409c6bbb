-- A fault at a place of a list is among the list: for those who go over the list from its front.
use Rattle.std.proofs.Common.{◌≡◌, ℕ, zero, suc, ◌+◌, ◌<◌, List, [], ◌∷◌, ◌++◌, map, refl, ap, sym, subst, inl, inr, Some, arith, append-nil}
use Rattle.std.specs.Prelude.{slice_get}
use Rattle.edif_spelling_spec.specs.Tree.{Bare, Placed, bare}
use Rattle.edif_spec.specs.Rows.{EachAfter}
use Rattle.edif_spec.specs.Faults.{AtOne, AtTwo, declared_width, BeyondBits}
use Rattle.edif_spec.specs.Stands.{AmongAfter}
use Rattle.edif_spec.specs.declared.fault.MeaningFault.{MeaningFault}

-- what holds at a place
pub one_at : {A : Type 0} (P : A → Type 0) (xs : List A) (i : ℕ) (x : A) → slice_get xs i ≡ Some x → P x → AtOne P xs
one_at P [] i x e p = absurd (cc e)
one_at {A} P (y ∷ xs) zero x e p = let w : y ≡ x = cc e in let Q : A → Type 0 = P in inl (subst Q (sym w) p)
one_at P (y ∷ xs) (suc i) x e p = inr (one_at P xs i x e p)

-- what holds of two places
pub two_at : {A : Type 0} (R : A → A → Type 0) (xs : List A) (i j : ℕ) (x y : A) → i < j → slice_get xs i ≡ Some x → slice_get xs j ≡ Some y → R x y → AtTwo R xs
two_at R [] i j x y l e f r = absurd (cc e)
two_at R (z ∷ xs) i zero x y l e f r = absurd (omega arith)
two_at {A} R (z ∷ xs) zero (suc j) x y l e f r = let w : z ≡ x = cc e in let Q : A → Type 0 = λ v. R v y in inl (one_at (R z) xs j y f (subst Q (sym w) r))
two_at R (z ∷ xs) (suc i) (suc j) x y l e f r = inr (two_at R xs i j x y (omega arith) e f r)

-- what holds of one of the later, or of the earlier
pub one_later : {A : Type 0} (P : A → Type 0) (xs ys : List A) → AtOne P ys → AtOne P (xs ++ ys)
one_later P [] ys h = h
one_later P (x ∷ xs) ys h = inr (one_later P xs ys h)

pub one_earlier : {A : Type 0} (P : A → Type 0) (xs ys : List A) → AtOne P xs → AtOne P (xs ++ ys)
one_earlier P [] ys h = absurd h
one_earlier P (x ∷ xs) ys (inl h) = inl h
one_earlier P (x ∷ xs) ys (inr h) = inr (one_earlier P xs ys h)

regroup : {A : Type 0} (xs ys zs : List A) → xs ++ (ys ++ zs) ≡ (xs ++ ys) ++ zs
regroup [] ys zs = refl
regroup (x ∷ xs) ys zs = ap (λ v. x ∷ v) (regroup xs ys zs)

-- a fault behind forms that mean something
pub after_later : {A : Type 0} (M : List A → Bare → A → Type 0) (F : List A → Placed → MeaningFault → Type 0) (before : List A) (ts us : List Placed) (xs : List A) (f : MeaningFault) → EachAfter M before (map bare ts) xs → AmongAfter M F (before ++ xs) us f → AmongAfter M F before (ts ++ us) f
after_later {A} M F before [] us [] f h b = let P : List A → Type 0 = λ v. AmongAfter M F v us f in subst P (append-nil before) b
after_later M F before [] us (x ∷ xs) f h b = absurd h
after_later M F before (t ∷ ts) us [] f h b = absurd h
after_later {A} M F before (t ∷ ts) us (x ∷ xs) f h b =
    let P : List A → Type 0 = λ v. AmongAfter M F v us f in
    inr (x, h.0, after_later M F (before ++ x ∷ []) ts us xs f h.1 (subst P (regroup before (x ∷ []) xs) b))

-- so many bits with those of these ports
abbrev pub Widths : ℕ → List Placed → ℕ → Type 0
Widths before [] total = before ≡ total
Widths before (t ∷ ts) total = Widths (before + declared_width t) ts total

-- what the sum of declared widths passes behind some ports
pub bits_later : (limit before total : ℕ) (ts us : List Placed) (f : MeaningFault) → Widths before ts total → BeyondBits limit total us f → BeyondBits limit before (ts ++ us) f
bits_later limit before total [] us f h b = let P : ℕ → Type 0 = λ v. BeyondBits limit v us f in subst P (sym h) b
bits_later limit before total (t ∷ ts) us f h b = inr (bits_later limit (before + declared_width t) total ts us f h b)
