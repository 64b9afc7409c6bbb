use Rattle.std.proofs.Common.{◌≡◌, ◌++◌, ◌≤◌, drop, length}
use Rattle.ver_table.specs.Entries.{pairs_of, with_all, IsInOrder}
use Rattle.ver_table.proofs.entries.changed_entries.Given as goal

abbrev pub invariant-loop-change : goal.invariant-loop-change
invariant-loop-change g l =
    ((pairs_of l.changed.items ++ with_all (pairs_of l.left) (drop l.change-index (pairs_of l.changes)) ≡ with_all (pairs_of l.fn.entries) (pairs_of l.changes)) × (IsInOrder (pairs_of l.left)))
    × (length l.left ≤ length l.fn.entries)
