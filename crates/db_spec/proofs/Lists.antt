-- Lists by their elements: those that a filter keeps, and lists that rise.
use Rattle.std.proofs.Common.{◌≡◌, ℕ, zero, suc, ◌+◌, ◌<◌, ◌==◌, ◌||◌, not, cond, Bool, true, false, List, [], ◌∷◌, ◌++◌, length, filter, slice_index_or, Contains, ◌⊎◌, inl, inr, refl, ap, sym, ◌∙◌, subst, arith}
use Rattle.std.specs.List.{list_any, All, AllPairs, AllByRecursion}
use Rattle.std.proofs.lemmas.Bool.Decides.{nat_tests}
use Rattle.std.proofs.lemmas.List.Elements.{Contains-push_cases, All-from_recursion}
use Rattle.std.proofs.lemmas.List.Kept.{AllPairs-cons}

others : (m n : ℕ) → (m ≡ n → ⊥) → not (m == n) ≡ true
others m n e = grind (arith, nat_tests)

itself : (m n : ℕ) → m ≡ n → not (m == n) ≡ false
itself m n e = grind (arith, nat_tests)

module _ {X : Type 0} where
  pub in_head : (x : X) (xs : List X) → Contains (x ∷ xs) x
  in_head x xs = (0, omega arith, refl)

  pub in_tail : (x y : X) (xs : List X) → Contains xs y → Contains (x ∷ xs) y
  in_tail x y xs m = (suc m.0, omega (arith, m.1), m.2)

  pub in_cases : (x y : X) (xs : List X) → Contains (x ∷ xs) y → (x ≡ y) ⊎ Contains xs y
  in_cases x y xs m = elim m.0 as (λ k. k < length (x ∷ xs) → slice_index_or (x ∷ xs) k y ≡ y → (x ≡ y) ⊎ Contains xs y) [
    | zero ↦ λ l e. inl e
    | suc k ↦ λ l e. inr (k, omega arith, e)
  ] m.1 m.2

  pub All-from_in : (P : X → Type 0) (xs : List X) → ((x : X) → Contains xs x → P x) → All P xs
  All-from_in P xs each = All-from_recursion P xs (by_recursion xs each)
    where
      by_recursion : (ys : List X) → ((y : X) → Contains ys y → P y) → AllByRecursion P ys
      by_recursion [] h = tt
      by_recursion (y ∷ ys) h = (h y (in_head y ys), by_recursion ys (λ z m. h z (in_tail y z ys m)))

  -- ---- filters

  pub from_filter : (test : X → Bool) (xs : List X) (x : X) → Contains (filter test xs) x → Contains xs x
  from_filter test [] x m = m
  from_filter test (y ∷ ys) x m = one (test y) (from_filter test ys x) m
    where
      one : (b : Bool) → (Contains (filter test ys) x → Contains ys x) → Contains (cond b (y ∷ filter test ys) (filter test ys)) x → Contains (y ∷ ys) x
      one true rest n = elim (in_cases y x (filter test ys) n) [
        | inl e ↦ (0, omega arith, e)
        | inr r ↦ in_tail y x ys (rest r)
      ]
      one false rest n = in_tail y x ys (rest n)

  pub filter_test : (test : X → Bool) (xs : List X) (x : X) → Contains (filter test xs) x → test x ≡ true
  filter_test test [] x m = absurd (omega (arith, m.1))
  filter_test test (y ∷ ys) x m = one (test y) refl (filter_test test ys x) m
    where
      one : (b : Bool) → test y ≡ b → (Contains (filter test ys) x → test x ≡ true) → Contains (cond b (y ∷ filter test ys) (filter test ys)) x → test x ≡ true
      one true is rest n = elim (in_cases y x (filter test ys) n) [
        | inl e ↦ ap test (sym e) ∙ is
        | inr r ↦ rest r
      ]
      one false is rest n = rest n

  pub to_filter : (test : X → Bool) (xs : List X) (x : X) → test x ≡ true → Contains xs x → Contains (filter test xs) x
  to_filter test [] x is m = m
  to_filter test (y ∷ ys) x is m = elim (in_cases y x ys m) [
    | inl e ↦
        let passes : test y ≡ true = ap test e ∙ is in
        subst (λ (b : Bool). Contains (cond b (y ∷ filter test ys) (filter test ys)) x) (sym passes) (0, omega arith, e)
    | inr r ↦ one (test y) (to_filter test ys x is r)
  ]
    where
      one : (b : Bool) → Contains (filter test ys) x → Contains (cond b (y ∷ filter test ys) (filter test ys)) x
      one true n = in_tail y x (filter test ys) n
      one false n = n

  -- ---- lists that rise

  abbrev pub Rises : (X → ℕ) → List X → Type 0
  Rises f [] = Unit {0}
  Rises f (x ∷ xs) = ((y : X) → Contains xs y → f x < f y) × Rises f xs

  pub rises_push : (f : X → ℕ) (xs : List X) (new : X) → ((x : X) → Contains xs x → f x < f new) → Rises f xs → Rises f (xs ++ new ∷ [])
  rises_push f [] new below r = (λ y m. absurd (omega (arith, m.1)), tt)
  rises_push f (x ∷ xs) new below r = (
    λ y m. elim (Contains-push_cases xs new y m) [
      | inl old ↦ r.0 y old
      | inr is ↦ subst (λ (z : X). f x < f z) is (below x (in_head x xs))
    ],
    rises_push f xs new (λ y m. below y (in_tail x y xs m)) r.1,
  )

  pub rises_filter : (f : X → ℕ) (test : X → Bool) (xs : List X) → Rises f xs → Rises f (filter test xs)
  rises_filter f test [] r = tt
  rises_filter f test (x ∷ xs) r = one (test x) (rises_filter f test xs r.1)
    where
      one : (b : Bool) → Rises f (filter test xs) → Rises f (cond b (x ∷ filter test xs) (filter test xs))
      one true rest = (λ y m. r.0 y (from_filter test xs y m), rest)
      one false rest = rest

  pub rises_pairs : (f : X → ℕ) (xs : List X) → Rises f xs → AllPairs (λ x y. f x < f y) xs
  rises_pairs f [] r = λ i j d lt within. absurd (omega arith)
  rises_pairs f (x ∷ xs) r = AllPairs-cons (λ y z. f y < f z) x xs (All-from_in (λ y. f x < f y) xs r.0) (rises_pairs f xs r.1)

  -- elements of one number are one
  pub one_by_number : (f : X → ℕ) (xs : List X) (p q : X) → Rises f xs → Contains xs p → Contains xs q → f p ≡ f q → p ≡ q
  one_by_number f [] p q r m k e = absurd (omega (arith, m.1))
  one_by_number f (x ∷ xs) p q r m k e = elim (in_cases x p xs m) [
    | inl a ↦ elim (in_cases x q xs k) [
      | inl b ↦ sym a ∙ b
      | inr b ↦ let lt = r.0 q b in let same : f x ≡ f p = ap f a in absurd (omega arith)
    ]
    | inr a ↦ elim (in_cases x q xs k) [
      | inl b ↦ let lt = r.0 p a in let same : f x ≡ f q = ap f b in absurd (omega arith)
      | inr b ↦ one_by_number f xs p q r.1 a b e
    ]
  ]

  -- ---- the element of a number goes

  all_stay : (f : X → ℕ) (n : ℕ) (xs : List X) → ((x : X) → Contains xs x → f x ≡ n → ⊥) → length (filter (λ x. not (f x == n)) xs) ≡ length xs
  all_stay f n [] away = refl
  all_stay f n (x ∷ xs) away =
      let stays = others (f x) n (away x (in_head x xs)) in
      let rest = all_stay f n xs (λ y m e. away y (in_tail x y xs m) e) in rw stays (omega arith)

  pub one_goes : (f : X → ℕ) (n : ℕ) (xs : List X) (x : X) → Rises f xs → Contains xs x → f x ≡ n → length (filter (λ y. not (f y == n)) xs) + 1 ≡ length xs
  one_goes f n [] x r m e = absurd (omega (arith, m.1))
  one_goes f n (y ∷ ys) x r m e = elim (in_cases y x ys m) [
    | inl same ↦
        let at : f y ≡ n = ap f same ∙ e in
        let goes = itself (f y) n at in
        let rest = all_stay f n ys (λ z k same_number. let lt = r.0 z k in omega arith) in rw goes (omega arith)
    | inr later ↦
        let lt = r.0 x later in
        let stays = others (f y) n (λ at. omega arith) in
        let rest = one_goes f n ys x r.1 later e in rw stays (omega arith)
  ]

  -- ---- an element passes

  pub any_in : (test : X → Bool) (xs : List X) (x : X) → Contains xs x → test x ≡ true → list_any test xs ≡ true
  any_in test [] x m is = absurd (omega (arith, m.1))
  any_in test (y ∷ ys) x m is = elim (in_cases y x ys m) [
    | inl e ↦ first (test y) (ap test e ∙ is)
    | inr r ↦ later (test y) (any_in test ys x r is)
  ]
    where
      first : (b : Bool) → b ≡ true → (b || list_any test ys) ≡ true
      first true e = refl
      first false e = cc

      later : (b : Bool) → list_any test ys ≡ true → (b || list_any test ys) ≡ true
      later true e = refl
      later false e = e

  pub in_any : (test : X → Bool) (xs : List X) → list_any test xs ≡ true → (x : X) × Contains xs x × (test x ≡ true)
  in_any test [] e = cc
  in_any test (y ∷ ys) e = one (test y) refl (in_any test ys) e
    where
      one : (b : Bool) → test y ≡ b → (list_any test ys ≡ true → (x : X) × Contains ys x × (test x ≡ true)) → (b || list_any test ys) ≡ true → (x : X) × Contains (y ∷ ys) x × (test x ≡ true)
      one true is more any = (y, in_head y ys, is)
      one false is more any = let rest = more any in (rest.0, in_tail y rest.0 ys rest.1, rest.2)
