-- Elements of a list, its last element, and what stands behind a beginning.
use Rattle.std.proofs.Common.{◌≡◌, ◌≢◌, ◌⊎◌, ℕ, zero, suc, ◌+◌, ◌<◌, ◌≤◌, List, [], ◌∷◌, ◌++◌, map, length, get_or, refl, sym, ap, subst, ◌∙◌, inl, inr, arith, Some, slice_get, Bool, true, false}
use Rattle.std.proofs.lemmas.Option.{slice_get_within, get_or_from_slice_get}
use Rattle.std.specs.Prelude.{cond, filter}
use Rattle.std.specs.List.{AllPairs, Contains}
use Rattle.std.proofs.lemmas.Bool.{false≢true}

-- x is in the list
abbrev pub Member : {A : Type 0} → List A → A → Type 0
Member [] x = ⊥
Member (y ∷ ys) x = (y ≡ x) ⊎ Member ys x

pub Member-append_left : {A : Type 0} (xs ys : List A) (x : A) → Member xs x → Member (xs ++ ys) x
Member-append_left [] ys x m = absurd m
Member-append_left (y ∷ xs) ys x m = elim m [ inl e ↦ inl e | inr rest ↦ inr (Member-append_left xs ys x rest) ]

pub Member-append_right : {A : Type 0} (xs ys : List A) (x : A) → Member ys x → Member (xs ++ ys) x
Member-append_right [] ys x m = m
Member-append_right (y ∷ xs) ys x m = inr (Member-append_right xs ys x m)

pub Member-append_cases : {A : Type 0} (xs ys : List A) (x : A) → Member (xs ++ ys) x → Member xs x ⊎ Member ys x
Member-append_cases [] ys x m = inr m
Member-append_cases (v ∷ xs) ys x m =
    elim m [
      | inl e ↦ inl (inl e)
      | inr rest ↦ elim (Member-append_cases xs ys x rest) [ inl left ↦ inl (inr left) | inr right ↦ inr right ]
    ]

pub Member-map : {A B : Type 0} (f : A → B) (xs : List A) (x : A) → Member xs x → Member (map f xs) (f x)
Member-map f [] x m = m
Member-map f (v ∷ xs) x m = elim m [ inl e ↦ inl (ap f e) | inr rest ↦ inr (Member-map f xs x rest) ]

pub Member-from_map : {A B : Type 0} (f : A → B) (xs : List A) (y : B) → Member (map f xs) y → (x : A) × Member xs x × (f x ≡ y)
Member-from_map f [] y m = absurd m
Member-from_map f (v ∷ xs) y m =
    elim m [
      | inl e ↦ (v, inl refl, e)
      | inr rest ↦ let found = Member-from_map f xs y rest in (found.0, inr found.1, found.2)
    ]

-- the two ways to say it
pub Contains-member : {A : Type 0} (xs : List A) (x : A) → Contains xs x → Member xs x
Contains-member {A = A} xs x c = at xs c.0 c.1 c.2
  where
    at : (xs : List A) (k : ℕ) → k < length xs → get_or xs k x ≡ x → Member xs x
    at [] k within is = absurd (omega arith)
    at (y ∷ ys) zero within is = inl is
    at (y ∷ ys) (suc k) within is = let less : k < length ys = omega arith in inr (at ys k less is)

pub Member-contains : {A : Type 0} (xs : List A) (x : A) → Member xs x → Contains xs x
Member-contains [] x m = absurd m
Member-contains (y ∷ ys) x m =
    elim m [
      | inl e ↦ (0, omega arith, e)
      | inr rest ↦ let found = Member-contains ys x rest in (suc found.0, omega arith, found.2)
    ]

-- what stands at a place is in the list, and what is in the list stands at a place
pub slice_get-contains : {A : Type 0} (xs : List A) (i : ℕ) (x : A) → slice_get xs i ≡ Some x → Contains xs x
slice_get-contains xs i x e = (i, slice_get_within xs i x e, get_or_from_slice_get xs i x x e)

-- a list of one element less, with all the others
pub without : {A : Type 0} (xs : List A) (x : A) → Member xs x
    → (ys : List A) × (suc (length ys) ≡ length xs) × ((y : A) → Member xs y → (y ≡ x → ⊥) → Member ys y)
without [] x m = absurd m
without (z ∷ zs) x m =
    elim m [
      | inl e ↦ (zs, refl, λ y k other. elim k [ inl same ↦ absurd (other (sym same ∙ e)) | inr rest ↦ rest ])
      | inr rest ↦
          let w = without zs x rest in
          (z ∷ w.0, ap suc w.1, λ y k other. elim k [ inl same ↦ inl same | inr there ↦ inr (w.2 y there other) ])
    ]

-- a list of fewer elements can't have all of so many
pub pigeons : {X : Type 0} (f : ℕ → X) (n a : ℕ) (ys : List X) → ((j k : ℕ) → a ≤ j → j < k → k < a + n → f k ≢ f j)
    → ((k : ℕ) → a ≤ k → k < a + n → Member ys (f k)) → n ≤ length ys
pigeons f zero a ys apart all = omega arith
pigeons f (suc n) a ys apart all =
    let low : a ≤ a = omega arith in
    let high : a < a + suc n = omega arith in
    let w = without ys (f a) (all a low high) in
    let fewer = pigeons f n (a + 1) w.0
    (λ j k p q r. let p' : a ≤ j = omega (arith, p) in let r' : k < a + suc n = omega (arith, r) in apart j k p' q r')
    (λ k p q.
    let p' : a ≤ k = omega (arith, p) in
    let less : a < k = omega (arith, p) in
    let q' : k < a + suc n = omega (arith, q) in
    w.2 (f k) (all k p' q') (apart a k low less q')) in
    omega (arith, fewer, w.1)

pub Member-filter : {A : Type 0} (test : A → Bool) (xs : List A) (x : A) → Member xs x → test x ≡ true → Member (filter test xs) x
Member-filter test [] x m e = m
Member-filter {A} test (y ∷ xs) x m e = go (λ k. Member-filter test xs x k e) (test y) refl
  where
    go : (Member xs x → Member (filter test xs) x) → (b : Bool) → test y ≡ b → Member (cond b (y ∷ filter test xs) (filter test xs)) x
    go further true is = elim m [ inl same ↦ inl same | inr rest ↦ inr (further rest) ]
    go further false is = elim m [ inl same ↦ absurd (false≢true (sym is ∙ ap test same ∙ e)) | inr rest ↦ further rest ]

pub Member-from_filter : {A : Type 0} (test : A → Bool) (xs : List A) (x : A) → Member (filter test xs) x → Member xs x × (test x ≡ true)
Member-from_filter test [] x m = absurd m
Member-from_filter {A} test (y ∷ xs) x m = go (λ k. Member-from_filter test xs x k) (test y) refl m
  where
    go : (Member (filter test xs) x → Member xs x × (test x ≡ true)) → (b : Bool) → test y ≡ b
        → Member (cond b (y ∷ filter test xs) (filter test xs)) x → ((y ≡ x) ⊎ Member xs x) × (test x ≡ true)
    go further true is m = elim m [
      | inl same ↦ (inl same, sym (ap test same) ∙ is)
      | inr rest ↦ let found = further rest in (inr found.0, found.1)
    ]
    go further false is m = let found = further m in (inr found.0, found.1)

pub filter_same : {A : Type 0} (t u : A → Bool) (xs : List A) → ((x : A) → Member xs x → t x ≡ u x) → filter t xs ≡ filter u xs
filter_same t u [] same = refl
filter_same t u (x ∷ xs) same =
    let here = same x (inl refl) in
    let later = filter_same t u xs (λ y m. same y (inr m)) in
    λ i. cond (here i) (x ∷ later i) (later i)

-- each element comes before all that follow it
abbrev pub Ascends : {A : Type 0} → (A → A → Type 0) → List A → Type 0
Ascends R [] = Unit {0}
Ascends {A} R (x ∷ xs) = ((y : A) → Member xs y → R x y) × Ascends R xs

pub Ascends-append : {A : Type 0} (R : A → A → Type 0) (xs ys : List A) → Ascends R xs → Ascends R ys
    → ((x y : A) → Member xs x → Member ys y → R x y) → Ascends R (xs ++ ys)
Ascends-append R [] ys p q across = q
Ascends-append R (x ∷ xs) ys p q across = (
  λ y m. elim (Member-append_cases xs ys y m) [ inl left ↦ p.0 y left | inr right ↦ across x y (inl refl) right ],
  Ascends-append R xs ys p.1 q (λ v w m k. across v w (inr m) k),
)

pub Ascends-map : {A B : Type 0} (R : A → A → Type 0) (S : B → B → Type 0) (f : A → B) → ((x y : A) → R x y → S (f x) (f y))
    → (xs : List A) → Ascends R xs → Ascends S (map f xs)
Ascends-map R S f carries [] p = tt
Ascends-map R S f carries (x ∷ xs) p = (
  λ y m. let found = Member-from_map f xs y m in subst (λ v. S (f x) v) found.2 (carries x found.0 (p.0 found.0 found.1)),
  Ascends-map R S f carries xs p.1,
)

get_or-member : {A : Type 0} (xs : List A) (i : ℕ) (d : A) → i < length xs → Member xs (get_or xs i d)
get_or-member [] i d within = absurd (omega arith)
get_or-member (x ∷ xs) zero d within = inl refl
get_or-member (x ∷ xs) (suc i) d within = let less : i < length xs = omega arith in inr (get_or-member xs i d less)

pub Ascends-pairs : {A : Type 0} (R : A → A → Type 0) (xs : List A) → Ascends R xs → AllPairs R xs
Ascends-pairs R [] p i j d less within = absurd (omega arith)
Ascends-pairs R (x ∷ xs) p i zero d less within = absurd (omega arith)
Ascends-pairs R (x ∷ xs) p zero (suc j) d less within = let inside : j < length xs = omega arith in p.0 (get_or xs j d) (get_or-member xs j d inside)
Ascends-pairs R (x ∷ xs) p (suc i) (suc j) d less within =
    let before : i < j = omega arith in
    let inside : j < length xs = omega arith in
    Ascends-pairs R xs p.1 i j d before inside

-- a list is empty or has a last element
pub last_cases : {A : Type 0} (s : List A) → (s ≡ []) ⊎ ((init : List A) × (last : A) × (s ≡ init ++ last ∷ []))
last_cases [] = inl refl
last_cases (x ∷ xs) =
    elim (last_cases xs) [
      | inl e ↦ inr ([], x, ap (λ v. x ∷ v) e)
      | inr e ↦ inr (x ∷ e.0, e.1, ap (λ v. x ∷ v) e.2)
    ]

-- nothing stands behind a list that is its own beginning
pub append-same : {A : Type 0} (xs s : List A) → xs ++ s ≡ xs → s ≡ []
append-same [] s e = e
append-same (x ∷ xs) s e = let tails : xs ++ s ≡ xs = cc in append-same xs s tails

pub Ascends-filter : {A : Type 0} (R : A → A → Type 0) (test : A → Bool) (xs : List A) → Ascends R xs → Ascends R (filter test xs)
Ascends-filter R test [] p = p
Ascends-filter {A} R test (y ∷ xs) p = go (Ascends-filter R test xs p.1) (test y)
  where
    go : Ascends R (filter test xs) → (b : Bool) → Ascends R (cond b (y ∷ filter test xs) (filter test xs))
    go further true = (λ z m. p.0 z (Member-from_filter test xs z m).0, further)
    go further false = further
