use Rattle.std.proofs.Common.{◌≤◌, List, length, subst, sym, arith}
use Rattle.edif_spelling_spec.specs.Tree.{Placed}
use Rattle.edif_spec.specs.Faults.{those_of}
use Rattle.edif_spec.specs.Stands.{InstFault, NameFault, ViewRefFault}
use Rattle.edif_spec.specs.Stands as stands
use Rattle.edif_spec.specs.declared.keyword.Keyword.TheVariants.{Designator, ViewRef}
use Rattle.edif_spec.proofs.KnownForms.{form_choice}
use Rattle.edif_tree.specs.Handles.{here, all}
use Rattle.edif_parts.proofs.Answering.{hand_on}
use Rattle.edif_contents.specs.Inners.{DetailsFault, ReadInst, ReadDetails}
use Rattle.edif_contents.proofs.InstLemmas.{inst_nodes, inst_read, details_fail, one_designator}
use Rattle.edif_contents.proofs.insts.read_inst.Goals as goal

pub at-requires : goal.at-requires
at-requires c = omega (arith, (inst_nodes (here c.args.node) c.in_ok-parts.parts c.in_ok-parts.ensures).count)

pub at-requires-2 : goal.at-requires-2
at-requires-2 c = omega (arith, (inst_nodes (here c.args.node) c.in_ok-parts.parts c.in_ok-parts.ensures).count)

pub read_name-requires : goal.read_name-requires
read_name-requires c = ((inst_nodes (here c.args.node) c.in_ok-parts.parts c.in_ok-parts.ensures).a (here c.at.result) c.at.ensures).is

pub read_view_ref-requires : goal.read_view_ref-requires
read_view_ref-requires c = form_choice ViewRef (here c.at-2.result) ((inst_nodes (here c.args.node) c.in_ok-parts.parts c.in_ok-parts.ensures).b (here c.at-2.result) c.at-2.ensures).is

pub returns-in_err-name : goal.returns-in_err-name
returns-in_err-name c =
    let t = here c.args.node in
    let u = here c.at.result in
    let libs = c.args.libs.now.libs in
    let n = inst_nodes t c.in_ok-parts.parts c.in_ok-parts.ensures in
    hand_on (ReadInst libs c.args.own t) (NameFault u) (InstFault libs c.args.own t) c.from_residual-in_err-name.result c.in_err-name.field-0.0 c.from_residual-in_err-name.ensures.1 (λ f b. stands.inst_name (u, (n.a u c.at.ensures).at, b)) c.in_err-name.ensures

pub returns-in_err-of : goal.returns-in_err-of
returns-in_err-of c =
    let t = here c.args.node in
    let v = here c.at-2.result in
    let libs = c.args.libs.now.libs in
    let b = (inst_nodes t c.in_ok-parts.parts c.in_ok-parts.ensures).b v c.at-2.ensures in
    hand_on (ReadInst libs c.args.own t) (ViewRefFault libs c.args.own v) (InstFault libs c.args.own t) c.from_residual-in_err-of.result c.in_err-of.field-0.0 c.from_residual-in_err-of.ensures.1 (λ f h. stands.inst_view (v, b.at, form_choice ViewRef v b.is, h)) c.in_err-of.ensures

pub read_details-requires : goal.read_details-requires
read_details-requires c =
    let a = c.in_ok-parts.ensures in
    subst (λ v. length (those_of Designator v) ≤ 1) (sym a.inner) (one_designator (here c.args.node) c.in_ok-parts.parts a)

pub returns-in_err-details : goal.returns-in_err-details
returns-in_err-details c =
    let t = here c.args.node in
    let libs = c.args.libs.now.libs in
    hand_on (ReadInst libs c.args.own t) (DetailsFault (all c.in_ok-parts.parts.inner)) (InstFault libs c.args.own t) c.from_residual-in_err-details.result c.in_err-details.field-0.0 c.from_residual-in_err-details.ensures.1
    (λ f b. details_fail libs c.args.own t f (subst (λ v. DetailsFault v f) c.in_ok-parts.ensures.inner b)) c.in_err-details.ensures

pub returns : goal.returns
returns c =
    let t = here c.args.node in
    let u = here c.at.result in
    let v = here c.at-2.result in
    let a = c.in_ok-parts.ensures in
    let n = inst_nodes t c.in_ok-parts.parts a in
    let N : List Placed → Type 0 = λ v. ReadDetails v c.in_ok-details.details in
    inst_read c.args.libs.now.libs c.args.own t u v c.in_ok-name.name.name c.in_ok-name.name.place c.in_ok-of.of c.in_ok-details.details (n.form u v c.at.ensures c.at-2.ensures) (n.a u c.at.ensures).at
    c.in_ok-name.ensures c.in_ok-of.ensures (subst N a.inner c.in_ok-details.ensures)
