use Rattle.netdb_desk.proofs.Turning.{runs}
use Rattle.netdb_desk.proofs.desk.Desk.line.Goals as goal

pub returns : goal.returns
returns c =
    runs c.args.self.now c.take_tx.new.self c.put.new.self c.args.seat c.in-Some.tx c.run_line-answer.new.tx c.args.text.now c.run_line-answer.result
    c.in-Some.ensures.some.0 c.in-Some.ensures.some.1 c.put.ensures c.run_line-answer.ensures.run
