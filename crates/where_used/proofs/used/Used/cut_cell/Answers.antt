use Rattle.std.proofs.Common.{sym, subst}
use Rattle.where_used.specs.Rows.{IsIndex}
use Rattle.where_used.proofs.Rising.{without_row_index}
use Rattle.where_used.proofs.used.Used.cut_cell.Goals as goal

pub invariant_of-self : goal.invariant_of-self
invariant_of-self c = subst IsIndex (sym c.cut_row.ensures) (without_row_index c.args.lib c.self.inside.libs.items c.self.invariant)
