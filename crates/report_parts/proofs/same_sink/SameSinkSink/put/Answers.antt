use Rattle.report_parts.proofs.Sinks.{puts_front}
use Rattle.report_parts.proofs.same_sink.SameSinkSink.put.Goals as goal

pub returns-then-compare-clause-front : goal.returns-then-compare-clause-front
returns-then-compare-clause-front c = puts_front c.args.self.now c.compare.new.self c.args.piece.now c.compare.result c.compare.ensures.same
