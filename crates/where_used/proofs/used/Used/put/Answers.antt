use Rattle.where_used.proofs.Rising.{put_or_not}
use Rattle.where_used.proofs.used.Used.put.Goals as goal

pub invariant_of-self : goal.invariant_of-self
invariant_of-self c = put_or_not c.put_use.result c.args.of c.args.at c.self.inside.libs.items c.put_use.new.index.items c.put_use.ensures.ok c.put_use.ensures.err c.self.invariant
