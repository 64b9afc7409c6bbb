use Rattle.std.proofs.Common.{◌≡◌, ◌≤◌, List, length, take}
use Rattle.used_spec.specs.declared.used_at.UsedAt.{UsedAt}
use Rattle.where_used.specs.Moves.{with_news}
use Rattle.where_used.proofs.moves.drop_news.Given as goal

-- what stands at the places from this one on is taken out
abbrev pub invariant-loop-left : goal.invariant-loop-left
invariant-loop-left l =
    (l.left ≤ length l.places)
    × ((index : List (List (List UsedAt))) → l.fn.used ≡ with_news l.cell (take l.fn.count l.places) index → l.used ≡ with_news l.cell (take l.left l.places) index)

abbrev pub decreases-loop-left : goal.decreases-loop-left
decreases-loop-left l = l.left
