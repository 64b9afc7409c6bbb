use Rattle.std.proofs.Common.{◌∷◌, []}
use Rattle.std.specs.Prelude.{codes}
use Rattle.edif_spec.specs.Arranged.{canonical_text}
use Rattle.script_spec.specs.Texts.{line}
use Rattle.report_parts.proofs.Comparing.{if_ok_on, other_front, same_behind}
use Rattle.report_parts.proofs.rests.is_head.Goals as goal

pub returns-in-Some : goal.returns-in-Some
returns-in-Some g c =
    let wanted = canonical_text (g.S.Shown.design c.args.design.now) in
    if_ok_on c.is_design.result _ _ (λ r iff. same_behind c.args.text.now (line (codes "design" ∷ [])) c.in-Some.rest.now wanted r c.in-Some.ensures iff) c.is_design.ensures

pub returns-in-None : goal.returns-in-None
returns-in-None g c = other_front c.args.text.now (line (codes "design" ∷ [])) (canonical_text (g.S.Shown.design c.args.design.now)) c.in-None.ensures
