-- Lists by place, and numbers that a test picks.
use Rattle.std.proofs.Common.{◌≡◌, ◌≢◌, ◌+◌, ◌<◌, ◌≤◌, ℕ, zero, suc, arith, Bool, true, false, cond, List, [], ◌∷◌, ◌++◌, length, map, Some, None, refl, sym, ap, ◌∙◌, slice_get}
use Rattle.std.specs.Prelude.{◌||◌, filter, nat_eq, option_map}
use Rattle.std.specs.List.{AllByRecursion, enumerate_from, list_any, range_with_len}
use Rattle.std.proofs.lemmas.Bool.{eq-eqb, eqb-true, false_from_ne_true, or_left, or_right}
use Rattle.netlist_order_spec.proofs.WholeOrder.{IsNew}

-- lists with the same at each place are one
pub same_list : {X : Type 0} (xs ys : List X) → ((i : ℕ) → slice_get xs i ≡ slice_get ys i) → xs ≡ ys
same_list [] [] h = refl
same_list [] (y ∷ ys) h = let e : None ≡ Some y = h 0 in cc
same_list (x ∷ xs) [] h = let e : Some x ≡ None = h 0 in cc
same_list (x ∷ xs) (y ∷ ys) h =
    let e : Some x ≡ Some y = h 0 in
    let first : x ≡ y = cc in
    let rest = same_list xs ys (λ k. h (suc k)) in
    λ i. first i ∷ rest i

pub past_end : {A : Type 0} (xs : List A) (i : ℕ) → slice_get xs i ≡ None → length xs ≤ i
past_end [] i e = omega arith
past_end (x ∷ xs) zero e = cc
past_end (x ∷ xs) (suc i) e = let h = past_end xs i e in omega (arith, h)

-- a value for each of as many numbers as a list has items
numbered_at : {A X : Type 0} (f : ℕ → X) (xs : List A) (a n i : ℕ) → n ≡ length xs → slice_get (map f (range_with_len a n)) i ≡ option_map (λ _. f (a + i)) (slice_get xs i)
numbered_at f [] a zero i e = refl
numbered_at f [] a (suc n) i e = absurd (omega (arith, e))
numbered_at f (x ∷ xs) a zero i e = absurd (omega (arith, e))
numbered_at f (x ∷ xs) a (suc n) zero e = let same : a ≡ a + 0 = omega arith in ap (λ k. Some (f k)) same
numbered_at f (x ∷ xs) a (suc n) (suc i) e =
    let same : a + 1 + i ≡ a + suc i = omega arith in
    numbered_at f xs (a + 1) n i (omega (arith, e)) ∙ ap (λ k. option_map (λ _. f k) (slice_get xs i)) same

pub numbered : {A X : Type 0} (f : ℕ → X) (xs : List A) (n i : ℕ) → n ≡ length xs → slice_get (map f (range_with_len 0 n)) i ≡ option_map (λ _. f i) (slice_get xs i)
numbered f xs n i e = let same : 0 + i ≡ i = omega arith in numbered_at f xs 0 n i e ∙ ap (λ k. option_map (λ _. f k) (slice_get xs i)) same

-- the items of a list with their places
enumerated_at : {X : Type 0} (xs : List X) (a i : ℕ) → slice_get (enumerate_from a xs) i ≡ option_map (λ x. (a + i, x)) (slice_get xs i)
enumerated_at [] a i = refl
enumerated_at (x ∷ xs) a zero = let same : a ≡ a + 0 = omega arith in ap (λ (k : ℕ). Some (k, x)) same
enumerated_at (x ∷ xs) a (suc i) =
    let same : a + 1 + i ≡ a + suc i = omega arith in
    enumerated_at xs (a + 1) i ∙ ap (λ (k : ℕ). option_map (λ y. (k, y)) (slice_get xs i)) same

pub enumerated : {X : Type 0} (xs : List X) (i : ℕ) → slice_get (enumerate_from 0 xs) i ≡ option_map (λ x. (i, x)) (slice_get xs i)
enumerated xs i = let same : 0 + i ≡ i = omega arith in enumerated_at xs 0 i ∙ ap (λ (k : ℕ). option_map (λ y. (k, y)) (slice_get xs i)) same

-- one number more
pub range_next : (a n : ℕ) → range_with_len a (n + 1) ≡ range_with_len a n ++ (a + n) ∷ []
range_next a n = let e : n + 1 ≡ suc n = omega arith in ap (range_with_len a) e ∙ go a n
  where
    go : (a n : ℕ) → range_with_len a (suc n) ≡ range_with_len a n ++ (a + n) ∷ []
    go a zero = let e : a ≡ a + 0 = omega arith in ap (λ k. k ∷ []) e
    go a (suc n) = let e : a + 1 + n ≡ a + suc n = omega arith in ap (λ ks. a ∷ ks) (go (a + 1) n ∙ ap (λ k. range_with_len (a + 1) n ++ k ∷ []) e)

-- ---- numbers that a test picks

abbrev pub picked : (ℕ → Bool) → ℕ → ℕ → List ℕ
picked test a n = filter test (range_with_len a n)

-- none of them is less than the first
none_less : (test : ℕ → Bool) (k a n : ℕ) → k < a → list_any (nat_eq k) (picked test a n) ≡ false
none_less test k a zero less = refl
none_less test k a (suc n) less = go (test a) (none_less test k (a + 1) n (omega arith))
  where
    apart : nat_eq k a ≡ false
    apart = false_from_ne_true (nat_eq k a) (λ same. let is : k ≡ a = eqb-true k a same in absurd (omega arith))

    go : (b : Bool) → list_any (nat_eq k) (picked test (a + 1) n) ≡ false → list_any (nat_eq k) (cond b (a ∷ picked test (a + 1) n) (picked test (a + 1) n)) ≡ false
    go true more = ap (λ b. b || list_any (nat_eq k) (picked test (a + 1) n)) apart ∙ more
    go false more = more

-- each stands once
pub picked_new : (test : ℕ → Bool) (a n : ℕ) → IsNew (picked test a n)
picked_new test a zero = tt
picked_new test a (suc n) = go (test a) (picked_new test (a + 1) n)
  where
    go : (b : Bool) → IsNew (picked test (a + 1) n) → IsNew (cond b (a ∷ picked test (a + 1) n) (picked test (a + 1) n))
    go true more = (none_less test a (a + 1) n (omega arith), more)
    go false more = more

-- each is in the range and passes
pub record IsPicked (test : ℕ → Bool) (most k : ℕ) : Type 0 where
  pub within : k < most
  pub passes : test k ≡ true

pub picked_are : (test : ℕ → Bool) (a n most : ℕ) → a + n ≤ most → AllByRecursion (IsPicked test most) (picked test a n)
picked_are test a zero most fits = tt
picked_are test a (suc n) most fits = go (test a) refl (picked_are test (a + 1) n most (omega (arith, fits)))
  where
    go : (b : Bool) → test a ≡ b → AllByRecursion (IsPicked test most) (picked test (a + 1) n) → AllByRecursion (IsPicked test most) (cond b (a ∷ picked test (a + 1) n) (picked test (a + 1) n))
    go true is more = (record { within = omega (arith, fits); passes = is }, more)
    go false is more = more

-- what is in the range and passes is one of them
pub picked_has : (test : ℕ → Bool) (a n k : ℕ) → a ≤ k → k < a + n → test k ≡ true → list_any (nat_eq k) (picked test a n) ≡ true
picked_has test a zero k from to passes = absurd (omega arith)
picked_has test a (suc n) k from to passes = first (nat_eq k a) refl (λ apart. picked_has test (a + 1) n k (omega (arith, apart)) (omega arith) passes)
  where
    keep : (b : Bool) → list_any (nat_eq k) (picked test (a + 1) n) ≡ true → list_any (nat_eq k) (cond b (a ∷ picked test (a + 1) n) (picked test (a + 1) n)) ≡ true
    keep true has = or_right (nat_eq k a) (list_any (nat_eq k) (picked test (a + 1) n)) has
    keep false has = has

    first : (b : Bool) → nat_eq k a ≡ b → (k ≢ a → list_any (nat_eq k) (picked test (a + 1) n) ≡ true) → list_any (nat_eq k) (picked test a (suc n)) ≡ true
    first true is rest =
        let same : k ≡ a = eqb-true k a is in
        let here : test a ≡ true = ap test (sym same) ∙ passes in
        ap (λ b. list_any (nat_eq k) (cond b (a ∷ picked test (a + 1) n) (picked test (a + 1) n))) here ∙ or_left (nat_eq k a) (list_any (nat_eq k) (picked test (a + 1) n)) is
    first false is rest = keep (test a) (rest (λ same. (let no : true ≡ false = sym (eq-eqb k a same) ∙ is in absurd (cc no))))
