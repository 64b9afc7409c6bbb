use Rattle.std.proofs.Common.{subst, sym}
use Rattle.where_used.specs.Rows.{IsIndex}
use Rattle.where_used.proofs.Rising.{drop_index}
use Rattle.where_used.proofs.used.Used.take_out.Goals as goal

pub invariant_of-self : goal.invariant_of-self
invariant_of-self c = subst IsIndex (sym c.drop_use.ensures) (drop_index c.args.of c.args.at c.self.inside.libs.items c.self.invariant)
