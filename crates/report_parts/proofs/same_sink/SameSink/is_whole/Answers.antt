use Rattle.report_parts.proofs.Sinks.{parted_whole}
use Rattle.report_parts.proofs.same_sink.SameSink.is_whole.Goals as goal

pub returns-else-is_none-clause-whole : goal.returns-else-is_none-clause-whole
returns-else-is_none-clause-whole c =
    parted_whole c.args.self.now c.self.inside.text.now c.self.inside.same c.self.inside.faults c.self.inside.other c.is_none.result c.self.view_is c.is_none.ensures c.if-is_none.false c.self.invariant.1
