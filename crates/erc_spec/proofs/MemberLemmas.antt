-- What is in a list of lists, and what a test finds.
use Rattle.std.proofs.Common.{◌≡◌, List, [], ◌∷◌, Bool, true, false, ◌||◌, refl, sym, ap, subst, ◌∙◌, inl, inr, true≢false}
use Rattle.std.specs.List.{flat_map, list_any}
use Rattle.flat_spec.proofs.ListLemmas.{Member, Member-append_cases, Member-append_left, Member-append_right}

pub Member-flat_map : {A B : Type 0} (f : A → List B) (xs : List A) (x : A) (y : B) → Member xs x → Member (f x) y → Member (flat_map f xs) y
Member-flat_map f [] x y m k = absurd m
Member-flat_map f (v ∷ xs) x y m k =
    elim m [
      | inl same ↦ Member-append_left (f v) (flat_map f xs) y (subst (λ w. Member (f w) y) (sym same) k)
      | inr rest ↦ Member-append_right (f v) (flat_map f xs) y (Member-flat_map f xs x y rest k)
    ]

pub Member-from_flat_map : {A B : Type 0} (f : A → List B) (xs : List A) (y : B) → Member (flat_map f xs) y → (x : A) × Member xs x × Member (f x) y
Member-from_flat_map f [] y m = absurd m
Member-from_flat_map f (v ∷ xs) y m =
    elim (Member-append_cases (f v) (flat_map f xs) y m) [
      | inl here ↦ (v, inl refl, here)
      | inr there ↦ let found = Member-from_flat_map f xs y there in (found.0, inr found.1, found.2)
    ]

pub any-member : {A : Type 0} (test : A → Bool) (xs : List A) → list_any test xs ≡ true → (x : A) × Member xs x × (test x ≡ true)
any-member test [] h = absurd (true≢false (sym h))
any-member {A} test (v ∷ xs) h = by (test v) refl (any-member test xs) h
  where
    by : (b : Bool) → test v ≡ b → (list_any test xs ≡ true → (x : A) × Member xs x × (test x ≡ true)) → (b || list_any test xs) ≡ true
        → (x : A) × Member (v ∷ xs) x × (test x ≡ true)
    by true is rest h = (v, inl refl, is)
    by false is rest h = let found = rest h in (found.0, inr found.1, found.2)

pub member-any : {A : Type 0} (test : A → Bool) (xs : List A) (x : A) → Member xs x → test x ≡ true → list_any test xs ≡ true
member-any test [] x m h = absurd m
member-any test (v ∷ xs) x m h =
    elim m [
      | inl same ↦ ap (λ b. b || list_any test xs) (ap test same ∙ h)
      | inr there ↦ ap (λ b. test v || b) (member-any test xs x there h) ∙ by (test v)
    ]
  where
    by : (b : Bool) → (b || true) ≡ true
    by true = refl
    by false = refl
