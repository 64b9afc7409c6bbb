use Rattle.std.proofs.Common.{◌≡◌, ◌+◌, ◌≤◌, length}
use Rattle.std.specs.Prelude.{drop}
use Rattle.edif_spec.specs.Faults.{those_of}
use Rattle.edif_tree.specs.Handles.{all}
use Rattle.edif_parts.proofs.parts.room_wanted.Given as goal

-- those counted, and those that are left, are all; no more were counted than passed over
abbrev pub invariant-loop-i : goal.invariant-loop-i
invariant-loop-i l = (l.count + length (those_of l.keyword (drop l.i (all l.nodes))) ≡ length (those_of l.keyword (all l.nodes))) × (l.count ≤ l.i)
