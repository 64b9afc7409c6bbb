-- Lists that are filtered, mapped and put together, and places in lists that ascend.
use Rattle.std.proofs.Common.{◌≡◌, ◌<◌, ℕ, zero, suc, List, [], ◌∷◌, refl, sym, subst, inl, inr, arith, Some, slice_get}
use Rattle.std.specs.List.{flat_map}
use Rattle.flat_spec.proofs.ListLemmas.{Member, Member-append_left, Member-append_right, Member-append_cases, Ascends}

pub slice_get-member : {A : Type 0} (xs : List A) (i : ℕ) (x : A) → slice_get xs i ≡ Some x → Member xs x
slice_get-member [] i x e = absurd (cc e)
slice_get-member (y ∷ xs) zero x e = inl (cc e)
slice_get-member (y ∷ xs) (suc i) x e = inr (slice_get-member xs i x e)

-- what stands earlier in a list that ascends comes before
pub ascends-before : {A : Type 0} (R : A → A → Type 0) (xs : List A) (i j : ℕ) (x y : A) → Ascends R xs → slice_get xs i ≡ Some x → slice_get xs j ≡ Some y
    → i < j → R x y
ascends-before R [] i j x y p e f less = absurd (cc e)
ascends-before R (z ∷ xs) i zero x y p e f less = absurd (omega (arith, less))
ascends-before R (z ∷ xs) zero (suc j) x y p e f less =
    let same : z ≡ x = cc e in
    subst (λ v. R v y) same (p.0 y (slice_get-member xs j y f))
ascends-before R (z ∷ xs) (suc i) (suc j) x y p e f less = ascends-before R xs i j x y p.1 e f (omega (arith, less))

pub Member-flat_map : {A B : Type 0} (f : A → List B) (xs : List A) (x : A) (y : B) → Member xs x → Member (f x) y → Member (flat_map f xs) y
Member-flat_map f [] x y m k = absurd m
Member-flat_map f (v ∷ xs) x y m k =
    elim m [
      | inl same ↦ Member-append_left (f v) (flat_map f xs) y (subst (λ w. Member (f w) y) (sym same) k)
      | inr rest ↦ Member-append_right (f v) (flat_map f xs) y (Member-flat_map f xs x y rest k)
    ]

pub Member-from_flat_map : {A B : Type 0} (f : A → List B) (xs : List A) (y : B) → Member (flat_map f xs) y → (x : A) × Member xs x × Member (f x) y
Member-from_flat_map f [] y m = absurd m
Member-from_flat_map f (v ∷ xs) y m =
    elim (Member-append_cases (f v) (flat_map f xs) y m) [
      | inl here ↦ (v, inl refl, here)
      | inr rest ↦ let found = Member-from_flat_map f xs y rest in (found.0, inr found.1, found.2)
    ]
