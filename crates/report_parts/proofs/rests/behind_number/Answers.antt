use Rattle.std.proofs.Common.{◌∙◌}
use Rattle.std.specs.Prelude.{codes, decimal}
use Rattle.report_parts.proofs.Comparing.{behind_no, behind_then}
use Rattle.report_parts.proofs.rests.behind_number.Goals as goal

pub returns-in-Some : goal.returns-in-Some
returns-in-Some c =
    behind_then (λ x. x.now) c.args.text.now (codes "script ") c.in-Some.rest.now c.as_bytes.result.now (decimal c.args.number) c.in-Some.ensures (c.as_bytes.ensures.value ∙ c.format.ensures.text) c.after-in-Some.result c.after-in-Some.ensures

pub returns-in-None : goal.returns-in-None
returns-in-None c = behind_no c.args.text.now (codes "script ") (decimal c.args.number) c.in-None.ensures
