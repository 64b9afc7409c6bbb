use Rattle.std.proofs.Common.{◌≡◌, ◌++◌, take}
use Rattle.ungroup_plans.proofs.notes.add_copies.Given as goal

abbrev pub invariant-loop-id : goal.invariant-loop-id
invariant-loop-id l = l.made.items ≡ l.initial.made.items ++ take l.id-index l.ids
