use Rattle.std.proofs.Common.{◌∷◌, [], refl}
use Rattle.std.specs.Prelude.{codes, decimal}
use Rattle.script_spec.specs.Texts.{line}
use Rattle.report_parts.proofs.Comparing.{behind_no, behind_then}
use Rattle.report_parts.proofs.rests.behind_text.Goals as goal

pub returns-in-Some : goal.returns-in-Some
returns-in-Some c =
    behind_then (λ x. x.now) c.args.text.now (line (codes "script" ∷ decimal c.args.number ∷ [])) c.in-Some.rest.now c.args.said.now c.args.said.now c.in-Some.ensures refl c.after.result c.after.ensures

pub returns-in-None : goal.returns-in-None
returns-in-None c = behind_no c.args.text.now (line (codes "script" ∷ decimal c.args.number ∷ [])) c.args.said.now c.in-None.ensures
