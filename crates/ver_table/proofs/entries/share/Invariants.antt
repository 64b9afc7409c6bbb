use Rattle.std.proofs.Common.{◌≡◌, ◌++◌, take}
use Rattle.ver_table.specs.Entries.{pairs_of}
use Rattle.ver_table.proofs.entries.share.Given as goal

abbrev pub invariant-loop-entry : goal.invariant-loop-entry
invariant-loop-entry g l = pairs_of l.list.items ≡ pairs_of l.initial.list.items ++ pairs_of (take l.entry-index l.entries)
