use Rattle.std.proofs.Common.{◌∙◌, ap, false, not, sym}
use Rattle.std.specs.Option.{option_map_or}
use Rattle.net_rows.specs.Rows.{has_joints, joints_of}
use Rattle.net_rows.proofs.RowLemmas.{not_empty}
use Rattle.net_rows.proofs.leads.leads_inside.Goals as goal

pub returns-in-Some : goal.returns-in-Some
returns-in-Some c =
    ap not c.is_empty.ensures ∙ not_empty c.joints.result.now ∙ ap has_joints c.joints.ensures
    ∙ sym (ap (λ o. option_map_or (λ first. has_joints (joints_of c.args.rows.now c.args.of first)) o false) (sym c.first_at.ensures ∙ c.in-Some.is))
