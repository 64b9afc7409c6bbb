use Rattle.std.proofs.Common.{arith}
use Rattle.db_draft.proofs.Making.{place_is_low}
use Rattle.db_work.proofs.work.Work.place.Goals as goal

pub overflow_cast-result : goal.overflow_cast-result
overflow_cast-result c =
    let low = place_is_low c.self.inside.draft.design c.args.name.now c.args.lib c.in-Some.place c.self.invariant c.in-Some.ensures in
    omega arith
