use Rattle.std.proofs.Common.{◌≡◌}
use Rattle.std.specs.Cmp.Lexicographic.{pointwise}
use Rattle.netlist_parts.proofs.parts.are_same.Given as goal

-- what is left is the same just where the whole is
abbrev pub invariant-loop-item : goal.invariant-loop-item
invariant-loop-item g l =
    (goal.iterator-loop-item g).can_next l.item-iterator
    × (goal.iterator-loop-item g).is_finite l.item-iterator
    × (pointwise g.T.PartialEq.eq l.fn.items l.fn.others ≡ pointwise g.T.PartialEq.eq l.item-iterator l.others)
