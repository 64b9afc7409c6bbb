use Rattle.where_used.proofs.Rising.{row_or_not}
use Rattle.where_used.proofs.used.Used.add_cell.Goals as goal

pub invariant_of-self : goal.invariant_of-self
invariant_of-self c = row_or_not c.add_row.result c.args.lib c.self.inside.libs.items c.add_row.new.index.items c.add_row.ensures.ok c.add_row.ensures.err c.self.invariant
