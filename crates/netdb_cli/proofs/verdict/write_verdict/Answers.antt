use Rattle.std.proofs.Common.{inl, inr}
use Rattle.script_run_spec.specs.Scripts.{all_steps}
use Rattle.netdb_cli.proofs.VerdictLemmas.{verdict_gives}
use Rattle.netdb_cli.proofs.verdict.write_verdict.Goals as goal

pub returns-in-Ok-Yes-clause-gives : goal.returns-in-Ok-Yes-clause-gives
returns-in-Ok-Yes-clause-gives g c =
    let said = rw c.in-Ok-Yes.field-0-is at c.in-Ok-Yes.ensures in
    verdict_gives c.args.design (all_steps c.args.scripts.now) c.args.report.now (g.K.Sink.written c.args.out.now) (g.K.Sink.written c.put_bytes.new.out) c.put_bytes.result
    (λ some none. said.1 (some, none)) (inl (said.0, c.put_bytes.ensures.gives))

pub returns-in-Ok-No-clause-gives : goal.returns-in-Ok-No-clause-gives
returns-in-Ok-No-clause-gives g c =
    let said = rw c.in-Ok-No.field-0-is at c.in-Ok-No.ensures in
    verdict_gives c.args.design (all_steps c.args.scripts.now) c.args.report.now (g.K.Sink.written c.args.out.now) (g.K.Sink.written c.put_bytes-in-Ok-No.new.out) c.put_bytes-in-Ok-No.result
    (λ some none. said.1 (some, none)) (inr (λ history prints. said.0 history prints, c.put_bytes-in-Ok-No.ensures.gives))
