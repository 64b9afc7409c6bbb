-- Labels at the start, one label lowered, and how far labels are settled.
use Rattle.std.proofs.Common.{◌≡◌, ◌<◌, ◌≤◌, ◌+◌, ◌⊎◌, ℕ, List, true, length, get_or, set, sym, ap, subst, ◌∙◌, inl, inr, arith, below_more}
use Rattle.std.proofs.lemmas.Bool.{cases_eq}
use Rattle.std.proofs.lemmas.List.{get_or-set_same, get_or-set_other, length-set}
use Rattle.netlist_schema.specs.Design.{Design}
use Rattle.netlist_schema.specs.Types.{CellId}
use Rattle.flat_spec.specs.Connection.{AreNeighbours, Connected}
use Rattle.flat_spec.specs.Types.{NetAt}
use Rattle.flat_spec.proofs.ConnectionLemmas.{Connected-one, Connected-append}
use Rattle.flat_spec.proofs.TestLemmas.{are_neighbours-true, are_neighbours-from}
use Rattle.design_model.specs.Labels.{AreLabels, IsSettledAt, near, net_at_place}

-- nets at two places that pass the test meet
near-true : (d : Design) (root : CellId) (xs : List NetAt) (i j : ℕ) → near d root xs i j ≡ true
    → AreNeighbours d root (net_at_place xs i) (net_at_place xs j)
unfolding near
near-true d root xs i j e = are_neighbours-true d root (net_at_place xs i) (net_at_place xs j) e

pub near-from : (d : Design) (root : CellId) (xs : List NetAt) (i j : ℕ) → AreNeighbours d root (net_at_place xs i) (net_at_place xs j)
    → near d root xs i j ≡ true
unfolding near
near-from d root xs i j t = are_neighbours-from d root (net_at_place xs i) (net_at_place xs j) t

-- a label lowered to that of a net that meets its own
pub AreLabels-set : (d : Design) (root : CellId) (xs : List NetAt) (labels : List ℕ) (i least : ℕ) → AreLabels d root xs labels
    → i < length xs → least < get_or labels i 0
    → (j : ℕ) × (j < length xs) × ((j ≡ i) ⊎ (near d root xs i j ≡ true)) × (least ≡ get_or labels j 0)
    → AreLabels d root xs (set labels i least)
AreLabels-set d root xs labels i least old within less from =
    let inside : i < length labels = omega (arith, within, old.long) in
    let leads : Connected d root (net_at_place xs i) (net_at_place xs least) = elim from.2 [
      | inl same ↦ absurd (omega (arith, less, from.3, ap (λ k. get_or labels k 0) same))
      | inr meet ↦
          Connected-append d root (net_at_place xs i) (net_at_place xs from.0) (net_at_place xs least)
          (Connected-one d root (net_at_place xs i) (net_at_place xs from.0) (near-true d root xs i from.0 meet))
          (subst (λ k. Connected d root (net_at_place xs from.0) (net_at_place xs k)) (sym from.3) (old.connected from.0 from.1))
    ] in
    record {
      long = length-set labels i least ∙ old.long;
      earlier = λ k h. elim (cases_eq k i) [
        | inl same ↦
            subst (λ v. get_or (set labels i least) v 0 ≤ v) (sym same)
            (omega (arith, get_or-set_same labels i least 0 inside, old.earlier i within, less))
        | inr other ↦ omega (arith, get_or-set_other labels i k least 0 other, old.earlier k h)
      ];
      connected = λ k h. elim (cases_eq k i) [
        | inl same ↦
            subst (λ v. Connected d root (net_at_place xs v) (net_at_place xs (get_or (set labels i least) v 0))) (sym same)
            (subst (λ v. Connected d root (net_at_place xs i) (net_at_place xs v)) (sym (get_or-set_same labels i least 0 inside)) leads)
        | inr other ↦
            subst (λ v. Connected d root (net_at_place xs k) (net_at_place xs v)) (sym (get_or-set_other labels i k least 0 other))
            (old.connected k h)
      ];
    }

-- one net more is settled
pub settled_more : (d : Design) (root : CellId) (xs : List NetAt) (labels : List ℕ) (place least : ℕ)
    → ((i : ℕ) → i < place → IsSettledAt d root xs labels i)
    → ((j : ℕ) → j < length xs → near d root xs place j ≡ true → least ≤ get_or labels j 0)
    → get_or labels place 0 ≤ least
    → (i : ℕ) → i < place + 1 → IsSettledAt d root xs labels i
settled_more d root xs labels place least below here low =
    below_more (IsSettledAt d root xs labels) place below (λ j h meet. omega (arith, here j h meet, low))
