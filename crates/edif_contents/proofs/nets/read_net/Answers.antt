use Rattle.std.proofs.Common.{List, refl, subst, arith}
use Rattle.edif_spelling_spec.specs.Tree.{Placed}
use Rattle.edif_spec.specs.Faults.{RowFault}
use Rattle.edif_spec.specs.Stands.{BusNameFault}
use Rattle.edif_spec.specs.Stands as stands
use Rattle.edif_spec.specs.declared.keyword.Keyword.TheVariants.{Joined}
use Rattle.edif_spec.proofs.KnownForms.{form_choice}
use Rattle.edif_tree.specs.Handles.{here, all}
use Rattle.edif_parts.proofs.Answering.{hand_on}
use Rattle.edif_parts.specs.declared.ports.BusName.{BusName}
use Rattle.edif_contents.specs.Nets.{HasParts, NetFaultIn, PartFault, ReadNet, form_in}
use Rattle.edif_contents.proofs.NetLemmas.{net_nodes, net_part_fails, net_read, net_refs}
use Rattle.edif_contents.proofs.nets.read_net.Goals as goal

pub at-requires : goal.at-requires
at-requires c = omega (arith, (net_nodes (here c.args.node) c.in_ok-parts.parts c.in_ok-parts.ensures).count)

pub at-requires-2 : goal.at-requires-2
at-requires-2 c = omega (arith, (net_nodes (here c.args.node) c.in_ok-parts.parts c.in_ok-parts.ensures).count)

pub read_bus_name-requires : goal.read_bus_name-requires
read_bus_name-requires c = ((net_nodes (here c.args.node) c.in_ok-parts.parts c.in_ok-parts.ensures).a (here c.at.result) c.at.ensures).is

pub returns-in_err-named : goal.returns-in_err-named
returns-in_err-named c =
    let t = here c.args.node in
    let u = here c.at.result in
    let s = c.args.around.now in
    let n = net_nodes t c.in_ok-parts.parts c.in_ok-parts.ensures in
    hand_on (ReadNet s t) (BusNameFault u) (NetFaultIn s t) c.from_residual-in_err-named.result c.in_err-named.field-0.0 c.from_residual-in_err-named.ensures.1 (λ f b. stands.net_name (u, (n.a u c.at.ensures).at, b)) c.in_err-named.ensures

pub read_joined-requires : goal.read_joined-requires
read_joined-requires c = form_choice Joined (here c.at-2.result) ((net_nodes (here c.args.node) c.in_ok-parts.parts c.in_ok-parts.ensures).b (here c.at-2.result) c.at-2.ensures).is

pub returns-in_err-ends : goal.returns-in_err-ends
returns-in_err-ends c =
    let t = here c.args.node in
    let v = here c.at-2.result in
    let s = c.args.around.now in
    let b = (net_nodes t c.in_ok-parts.parts c.in_ok-parts.ensures).b v c.at-2.ensures in
    hand_on (ReadNet s t) (RowFault Joined v) (NetFaultIn s t) c.from_residual-in_err-ends.result c.in_err-ends.field-0.0 c.from_residual-in_err-ends.ensures.1
    (λ f h. stands.net_joined (v, b.at, form_choice Joined v b.is, stands.joined_row h)) c.in_err-ends.ensures

pub read_written-requires-clause-nodes : goal.read_written-requires-clause-nodes
read_written-requires-clause-nodes c = c.in_ok-ends.ensures.refs

pub returns-in_err-net : goal.returns-in_err-net
returns-in_err-net c =
    let t = here c.args.node in
    let u = here c.at.result in
    let v = here c.at-2.result in
    let s = c.args.around.now in
    let a = c.in_ok-parts.ensures in
    let n = net_nodes t c.in_ok-parts.parts a in
    let name : BusName = c.in_ok-named.named in
    let us = all c.in_ok-ends.ends in
    hand_on (ReadNet s t) (PartFault s name.array us (all c.in_ok-parts.parts.inner)) (NetFaultIn s t) c.from_residual-in_err-net.result c.in_err-net.field-0.0 c.from_residual-in_err-net.ensures.1
    (λ f h.
    let P : List Placed → Type 0 = λ w. PartFault s name.array us w f in
    net_part_fails s t u v us name f (n.a u c.at.ensures).at (n.b v c.at-2.ensures) c.in_ok-named.ensures c.in_ok-ends.ensures (subst P a.inner h)) c.in_err-net.ensures

pub returns : goal.returns
returns c =
    let t = here c.args.node in
    let u = here c.at.result in
    let v = here c.at-2.result in
    let s = c.args.around.now in
    let a = c.in_ok-parts.ensures in
    let n = net_nodes t c.in_ok-parts.parts a in
    let name : BusName = c.in_ok-named.named in
    let P : List Placed → Type 0 = λ w. HasParts s name.name name.array (all c.in_ok-ends.ends) w (form_in c.in_ok-net.net) in
    net_read s t u v name _ (n.form u v c.at.ensures c.at-2.ensures) (n.a u c.at.ensures).at (net_refs t v (n.b v c.at-2.ensures)) refl c.in_ok-named.ensures c.in_ok-ends.ensures (subst P a.inner c.in_ok-net.ensures)
