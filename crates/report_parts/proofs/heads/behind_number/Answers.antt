use Rattle.std.proofs.Common.{◌∙◌}
use Rattle.std.specs.Prelude.{decimal}
use Rattle.report_parts.proofs.Heading.{behind_blank}
use Rattle.report_parts.proofs.heads.behind_number.Goals as goal

pub returns-in-Some : goal.returns-in-Some
returns-in-Some c = behind_blank (λ x. x.now) c.args.text.now c.as_bytes.result.now c.in-Some.rest.now (decimal c.args.number) c.in-Some.ensures (c.as_bytes.ensures.value ∙ c.format.ensures.text) c.after-in-Some.result c.after-in-Some.ensures
