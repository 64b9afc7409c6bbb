use Rattle.std.proofs.Common.{◌≡◌}
use Rattle.std.specs.Prelude.{drop}
use Rattle.edif_spec.specs.Faults.{those_of}
use Rattle.edif_tree.specs.Handles.{all}
use Rattle.edif_parts.proofs.parts.first_form.Given as goal

-- none of the keyword was passed over
abbrev pub invariant-loop-i : goal.invariant-loop-i
invariant-loop-i l = those_of l.keyword (all l.nodes) ≡ those_of l.keyword (drop l.i (all l.nodes))
