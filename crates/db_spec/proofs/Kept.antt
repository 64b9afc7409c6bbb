-- How many versions are kept, and that the last of them is the last version; how many events there are.
use Rattle.std.proofs.Common.{◌≡◌, ℕ, ◌+◌, ◌<◌, ◌≤◌, List, [], ◌∷◌, ◌++◌, length, Contains, inl, inr, ap, arith}
use Rattle.netlist_schema.specs.Design.{Design}
use Rattle.db_spec.specs.declared.event.Event.{Event}
use Rattle.db_spec.specs.State.{State, opening, after}
use Rattle.db_spec.specs.History.{state_from, state_after}
use Rattle.db_spec.proofs.Lists.{Rises, in_cases, in_head, in_tail}

-- a rising list of numbers from one to another is not longer than they are apart
few_from : (xs : List ℕ) (low high : ℕ) → Rises (λ (n : ℕ). n) xs → ((x : ℕ) → Contains xs x → low ≤ x) → ((x : ℕ) → Contains xs x → x ≤ high) → low ≤ high + 1 → length xs + low ≤ high + 1
few_from [] low high r above below le = omega arith
few_from (x ∷ xs) low high r above below le =
    let first = above x (in_head x xs) in
    let last = below x (in_head x xs) in
    let rest = few_from xs (x + 1) high r.1 (λ y m. let lt = r.0 y m in omega arith) (λ y m. below y (in_tail x y xs m)) (omega arith) in omega arith

pub few_rising : (xs : List ℕ) (high : ℕ) → Rises (λ (n : ℕ). n) xs → ((x : ℕ) → Contains xs x → x ≤ high) → length xs ≤ high + 1
few_rising xs high r below = let few = few_from xs 0 high r (λ x m. omega arith) below (omega arith) in omega arith

-- the greatest number of a rising list is its last
pub greatest_last : (xs : List ℕ) (high : ℕ) → Rises (λ (n : ℕ). n) xs → Contains xs high → ((x : ℕ) → Contains xs x → x ≤ high) → (before : List ℕ) × (xs ≡ before ++ high ∷ [])
greatest_last [] high r m below = absurd (omega (arith, m.1))
greatest_last (x ∷ xs) high r m below = elim (in_cases x high xs m) [
  | inl here ↦ alone xs r.0 (λ y later. below y (in_tail x y xs later)) here
  | inr later ↦
      let rest = greatest_last xs high r.1 later (λ y there. below y (in_tail x y xs there)) in
      (x ∷ rest.0, ap (λ (ys : List ℕ). x ∷ ys) rest.1)
]
  where
    alone : (ys : List ℕ) → ((y : ℕ) → Contains ys y → x < y) → ((y : ℕ) → Contains ys y → y ≤ high) → x ≡ high → (before : List ℕ) × (x ∷ ys ≡ before ++ high ∷ [])
    alone [] above under same = ([], ap (λ (n : ℕ). n ∷ []) same)
    alone (y ∷ ys) above under same = let lt = above y (in_head y ys) in let le = under y (in_head y ys) in absurd (omega arith)

events_from : (s : State) (xs : List Event) → (state_from s xs).events ≡ s.events + length xs
events_from s [] = omega arith
events_from s (x ∷ xs) = let rest = events_from (after s x) xs in omega arith

pub events_after : (d : Design) (xs : List Event) → (state_after d xs).events ≡ length xs
events_after d xs = let all = events_from (opening d) xs in omega arith
