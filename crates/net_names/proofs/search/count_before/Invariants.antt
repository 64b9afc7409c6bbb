use Rattle.std.proofs.Common.{◌<◌, ◌≤◌, ◌-◌, ℕ, length, slice_index_or}
use Rattle.net_classes.specs.declared.joints.Joint.{Joint}
use Rattle.net_names.specs.Search.{IsBefore}
use Rattle.net_names.proofs.search.count_before.Given as goal

abbrev pub invariant-search : goal.invariant-search
invariant-search l = record {
  low : l.low ≤ l.high;
  high : l.high ≤ length l.joints;
  before : (k : ℕ) (d : Joint) → k < l.low → IsBefore l.inst (record { port = l.port; bit = l.bit }) (slice_index_or l.joints k d);
  behind : (k : ℕ) (d : Joint) → l.high ≤ k → k < length l.joints → IsBefore l.inst (record { port = l.port; bit = l.bit }) (slice_index_or l.joints k d) → ⊥;
}

abbrev pub decreases-search : goal.decreases-search
decreases-search l = l.high - l.low
