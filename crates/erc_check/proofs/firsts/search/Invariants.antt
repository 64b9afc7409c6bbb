use Rattle.std.proofs.Common.{ℕ, ◌<◌, ◌≤◌, ◌-◌, length}
use Rattle.std.specs.List.{AllPairs}
use Rattle.flat_spec.specs.PathOrder.{NetBefore}
use Rattle.flat_items.specs.Lent.{net_of}
use Rattle.erc_check.specs.Firsts.{IsPlaceOf}
use Rattle.erc_check.proofs.firsts.search.Given as goal

-- where the nets are in order, the net stands between the two ends, if anywhere
abbrev pub invariant-halves : goal.invariant-halves
invariant-halves l = record {
  ends : l.low ≤ l.high;
  inside : l.high ≤ length l.firsts;
  between : AllPairs (λ f g. NetBefore f.at g.at) l.firsts → (place : ℕ) → IsPlaceOf l.firsts (net_of l.at) place → (l.low ≤ place) × (place < l.high);
}

abbrev pub decreases-halves : goal.decreases-halves
decreases-halves l = l.high - l.low
