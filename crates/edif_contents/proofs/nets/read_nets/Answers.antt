use Rattle.edif_spec.specs.Faults.{those_of}
use Rattle.edif_spec.specs.declared.keyword.Keyword.TheVariants.{Net}
use Rattle.edif_tree.specs.Handles.{all}
use Rattle.edif_parts.proofs.Answering.{hand_on}
use Rattle.edif_contents.specs.Nets.{NetsFaultIn}
use Rattle.edif_nets.specs.NetLists.{AreNamedAlike, JoinTwice}
use Rattle.edif_contents.proofs.InsideLoops.{ends_fail, ends_placed, names_fail, nets_end}
use Rattle.edif_contents.proofs.nets.read_nets.Goals as goal

pub returns-in_err-list : goal.returns-in_err-list
returns-in_err-list c =
    let F = NetsFaultIn c.args.around.now (those_of Net (all c.args.inner)) in
    hand_on _ F F c.from_residual.result c.in_err-list.field-0.0 c.from_residual.ensures.1 (λ f h. h) c.in_err-list.ensures

pub check_ends-requires : goal.check_ends-requires
check_ends-requires c = ends_placed c.args.around.now (all c.args.inner) c.in_ok-list.list c.in_ok-list.ensures

pub returns-in_err-check_ends : goal.returns-in_err-check_ends
returns-in_err-check_ends c =
    let s = c.args.around.now in
    let ts = all c.args.inner in
    let list = c.in_ok-list.list in
    hand_on _ (JoinTwice list) (NetsFaultIn s (those_of Net ts)) c.from_residual-in_err-check_ends.result c.in_err-check_ends.field-0.0 c.from_residual-in_err-check_ends.ensures.1
    (λ f b. ends_fail s ts list f c.in_ok-list.ensures b) c.in_err-check_ends.ensures

pub check_names-requires : goal.check_names-requires
check_names-requires c = c.in_ok-list.ensures.places

pub returns-in_err-check_names : goal.returns-in_err-check_names
returns-in_err-check_names c =
    let s = c.args.around.now in
    let ts = all c.args.inner in
    let list = c.in_ok-list.list in
    hand_on _ (AreNamedAlike list) (NetsFaultIn s (those_of Net ts)) c.from_residual-in_err-check_names.result c.in_err-check_names.field-0.0 c.from_residual-in_err-check_names.ensures.1
    (λ f b. names_fail s ts list f c.in_ok-list.ensures b) c.in_err-check_names.ensures

pub returns : goal.returns
returns c = rw c.in_ok-nets.ensures (nets_end c.args.around.now (all c.args.inner) c.in_ok-list.list c.in_ok-list.ensures c.in_ok-check_ends.ensures c.in_ok-check_names.ensures)
