use Rattle.std.proofs.Common.{rules, List, map, sym, subst}
use Rattle.std.specs.Arc.{arc_value}
use Rattle.ver_table.specs.Entries.{pairs_of, IsInOrder}
use Rattle.ver_table.specs.declared.entries.Entry.{Entry}
use Rattle.ver_table.proofs.Listed.{numbered_sorted}
use Rattle.netlist_schema.specs.Types.{CellBody}
use Rattle.db_version.proofs.shelf.with_behind.Goals as goal

pub put_all-requires : goal.put_all-requires
put_all-requires c = (
  search rules,
  subst (λ (es : List (Entry CellBody)). IsInOrder (pairs_of es)) (sym c.as_slice.ensures.value)
      (subst IsInOrder (sym c.in_ok-entries.ensures) (numbered_sorted c.args.first (map arc_value c.args.bodies.now))),
)
