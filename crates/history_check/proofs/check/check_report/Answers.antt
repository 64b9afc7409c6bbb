use Rattle.std.proofs.Common.{subst}
use Rattle.std.specs.Prelude.{Ok}
use Rattle.script_run_spec.specs.Scripts.{all_steps}
use Rattle.history_check.specs.Verdicts.{Checks}
use Rattle.history_check.specs.declared.check.Verdict.TheVariants.{No}
use Rattle.history_check.proofs.Seating.{verdict_no}
use Rattle.history_check.proofs.check.check_report.Goals as goal

pub returns : goal.returns
returns c =
    subst (λ z. Checks c.args.design (all_steps z) c.args.report.now (Ok No)) c.as_slice-rows.ensures
    (verdict_no c.args.design c.in_ok-core.core (all_steps c.as_slice-rows.result.now) c.args.report.now c.in_ok-check.field-0 c.cannot_walk.result c.in_ok-core.ensures c.if-branch.false c.in_ok-check.ensures c.cannot_walk.ensures c.if-cannot_walk.false)
