use Rattle.std.proofs.Common.{◌≡◌, map, take}
use Rattle.flat_spec.specs.Effective.{replaced}
use Rattle.annot_view.specs.Lent.{lent}
use Rattle.annot_view.proofs.properties.with_replaced.Given as goal

-- what became of the base properties so far
abbrev pub invariant-loop-property : goal.invariant-loop-property
invariant-loop-property l = l.properties.items ≡ map (replaced (lent l.notes)) (take l.property-index l.base)
