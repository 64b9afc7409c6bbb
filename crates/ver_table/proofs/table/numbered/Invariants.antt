use Rattle.std.proofs.Common.{◌≡◌, map, length}
use Rattle.std.specs.Arc.{arc_value}
use Rattle.ver_table.specs.Entries.{pairs_of}
use Rattle.ver_table.specs.Rows.{numbered}
use Rattle.ver_table.proofs.table.numbered.Given as goal

abbrev pub invariant-loop-item : goal.invariant-loop-item
invariant-loop-item g l = (l.slot ≡ length l.yielded) × (pairs_of l.entries.items ≡ numbered 0 (map arc_value l.yielded))
