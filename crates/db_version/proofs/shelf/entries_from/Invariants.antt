use Rattle.std.proofs.Common.{◌≡◌, ◌+◌, map, take}
use Rattle.std.specs.Arc.{arc_value}
use Rattle.ver_table.specs.Rows.{numbered}
use Rattle.ver_table.specs.Entries.{pairs_of}
use Rattle.db_version.proofs.shelf.entries_from.Given as goal

abbrev pub invariant-loop-body : goal.invariant-loop-body
invariant-loop-body l = record {
  pairs : pairs_of l.entries.items ≡ numbered l.first (map arc_value (take l.body-index l.bodies));
  slot : l.slot ≡ l.first + l.body-index;
}
