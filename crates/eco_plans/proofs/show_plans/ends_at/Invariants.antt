use Rattle.std.proofs.Common.{◌≡◌, Some, map, take}
use Rattle.eco_plans.specs.Shown.{ends_seen, seen_end}
use Rattle.eco_plans.proofs.show_plans.ends_at.Given as goal

-- the ends so far
abbrev pub invariant-loop-end : goal.invariant-loop-end
invariant-loop-end l = map seen_end l.made.items ≡ ends_seen (Some l.contents) l.id (take l.end-index l.end-items)
