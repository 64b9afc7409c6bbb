use Rattle.edif_spec.proofs.KnownForms.{form_choice}
use Rattle.std.proofs.Common.{◌≡◌, List, [], ◌∷◌, sym, ap, ◌∙◌, subst, inl, inr, Some, arith}
use Rattle.edif_spelling_spec.specs.Tree.{Placed}
use Rattle.edif_spec.specs.Faults.{followers, those_of}
use Rattle.edif_spec.specs.Keyword.{name_definition, the}
use Rattle.edif_spec.specs.Stands.{CellFault, CellTypeFault, ViewFault}
use Rattle.edif_spec.specs.Stands as stands
use Rattle.edif_spec.specs.declared.keyword.Keyword.TheVariants as keywords
use Rattle.edif_spec.proofs.FaultsApart.{defined_first}
use Rattle.edif_tree.specs.Handles.{here, all}
use Rattle.edif_tree.specs.declared.node.Node.{Node}
use Rattle.edif_build.specs.Cells.{OneNode, ReadCell, ViewsFault}
use Rattle.edif_build.specs.Headings.{HeadingFault, ReadHeading}
use Rattle.edif_grammar.specs.Forms.{ArePartsOf}
use Rattle.edif_grammar.specs.declared.lent.Form.{Form}
use Rattle.edif_parts.proofs.Answering.{hand_on}
use Rattle.edif_parts.proofs.PartLemmas.{TwoNodes}
use Rattle.edif_build.proofs.CellLemmas.{cell_means, cell_nodes, insts_differ, is_view, view_fails_there, views_fail}
use Rattle.edif_build.proofs.cells.read_cell.Goals as goal

-- the one view among what follows
view_of : (t : Placed) (p : Form) (found : Node) → ArePartsOf keywords.Cell t p → OneNode (those_of keywords.View (all p.inner)) (Some found) → those_of keywords.View (followers keywords.Cell t) ≡ here found ∷ []
view_of t p found a o = ap (those_of keywords.View) (sym a.inner) ∙ o

nodes : (t : Placed) (p : Form) (found : Node) → ArePartsOf keywords.Cell t p → OneNode (those_of keywords.View (all p.inner)) (Some found) → TwoNodes keywords.Cell name_definition (the keywords.CellType) t p
nodes t p found a o = cell_nodes t (here found) p a (view_of t p found a o)

pub returns-in_err-found : goal.returns-in_err-found
returns-in_err-found c =
    let t = here c.args.node in
    let libs = c.args.libs.now.libs in
    let place = c.in_ok-parts.parts.place in
    hand_on (ReadCell libs (Some c.args.own) t) (ViewsFault (those_of keywords.View (all c.in_ok-parts.parts.inner)) place) (CellFault libs (Some c.args.own) t)
    c.from_residual-in_err-found.result c.in_err-found.field-0.0 c.from_residual-in_err-found.ensures.1
    (λ f b. (let F : List Placed → Type 0 = λ v. ViewsFault (those_of keywords.View v) place f in views_fail libs (Some c.args.own) t place f c.in_ok-parts.ensures.place (subst F c.in_ok-parts.ensures.inner b))) c.in_err-found.ensures

pub at-requires : goal.at-requires
at-requires c = omega (arith, (nodes (here c.args.node) c.in_ok-parts.parts c.in_ok-found.found c.in_ok-parts.ensures c.in_ok-found.ensures).count)

pub at-requires-2 : goal.at-requires-2
at-requires-2 c = omega (arith, (nodes (here c.args.node) c.in_ok-parts.parts c.in_ok-found.found c.in_ok-parts.ensures c.in_ok-found.ensures).count)

pub read_kind-requires : goal.read_kind-requires
read_kind-requires c =
    let u = here c.at.result in
    form_choice keywords.CellType u ((nodes (here c.args.node) c.in_ok-parts.parts c.in_ok-found.found c.in_ok-parts.ensures c.in_ok-found.ensures).b u c.at.ensures).is

pub returns-in_err-kind : goal.returns-in_err-kind
returns-in_err-kind c =
    let t = here c.args.node in
    let u = here c.at.result in
    let a = (nodes t c.in_ok-parts.parts c.in_ok-found.found c.in_ok-parts.ensures c.in_ok-found.ensures).b u c.at.ensures in
    hand_on (ReadCell c.args.libs.now.libs (Some c.args.own) t) (CellTypeFault u) (CellFault c.args.libs.now.libs (Some c.args.own) t) c.from_residual-in_err-kind.result c.in_err-kind.field-0.0 c.from_residual-in_err-kind.ensures.1
    (λ f b. stands.cell_type (u, a.at, form_choice keywords.CellType u a.is, b)) c.in_err-kind.ensures

pub read_heading-requires : goal.read_heading-requires
read_heading-requires c = ((nodes (here c.args.node) c.in_ok-parts.parts c.in_ok-found.found c.in_ok-parts.ensures c.in_ok-found.ensures).a (here c.at-2.result) c.at-2.ensures).is

pub returns-in_err-heading : goal.returns-in_err-heading
returns-in_err-heading c =
    let t = here c.args.node in
    let u = here c.at-2.result in
    let n = nodes t c.in_ok-parts.parts c.in_ok-found.found c.in_ok-parts.ensures c.in_ok-found.ensures in
    hand_on (ReadCell c.args.libs.now.libs (Some c.args.own) t) (HeadingFault u (all c.in_ok-parts.parts.inner)) (CellFault c.args.libs.now.libs (Some c.args.own) t)
    c.from_residual-in_err-heading.result c.in_err-heading.field-0.0 c.from_residual-in_err-heading.ensures.1
    (λ f b. (let F : List Placed → Type 0 = λ v. HeadingFault u v f in elim (subst F c.in_ok-parts.ensures.inner b) [ inl x ↦ stands.cell_name (u, (n.a u c.at-2.ensures).at, x) | inr x ↦ stands.cell_properties x ])) c.in_err-heading.ensures

pub read_view-requires : goal.read_view-requires
read_view-requires c = is_view (all c.in_ok-parts.parts.inner) (here c.in_ok-found.found) c.in_ok-found.ensures

pub returns-in_err-view : goal.returns-in_err-view
returns-in_err-view c =
    let t = here c.args.node in
    let u = here c.in_ok-found.found in
    let o = view_of t c.in_ok-parts.parts c.in_ok-found.found c.in_ok-parts.ensures c.in_ok-found.ensures in
    let libs = c.args.libs.now.libs in
    hand_on (ReadCell libs (Some c.args.own) t) (ViewFault libs (Some c.args.own) u) (CellFault libs (Some c.args.own) t) c.from_residual-in_err-view.result c.in_err-view.field-0.0 c.from_residual-in_err-view.ensures.1
    (λ f b. view_fails_there libs (Some c.args.own) t u f o b) c.in_err-view.ensures

pub cell_of-requires-clause-ports : goal.cell_of-requires-clause-ports
cell_of-requires-clause-ports c = c.in_ok-view.ensures.body.interface.names

pub cell_of-requires-clause-insts : goal.cell_of-requires-clause-insts
cell_of-requires-clause-insts c = insts_differ c.args.libs.now.libs (Some c.args.own) (here c.in_ok-found.found) c.in_ok-view.view c.in_ok-view.ensures

pub returns : goal.returns
returns c =
    let t = here c.args.node in
    let u = here c.at-2.result in
    let v = here c.at.result in
    let h = c.in_ok-parts.ensures in
    let o = view_of t c.in_ok-parts.parts c.in_ok-found.found h c.in_ok-found.ensures in
    let n = nodes t c.in_ok-parts.parts c.in_ok-found.found h c.in_ok-found.ensures in
    let x = c.in_ok-heading.heading in
    let H : List Placed → Type 0 = λ ts. ReadHeading u ts x in
    let m = subst H h.inner c.in_ok-heading.ensures in
    cell_means c.args.libs.now.libs (Some c.args.own) t (here c.in_ok-found.found) u v x.name c.in_ok-kind.kind x.properties c.in_ok-view.view c.cell_of.result (n.form u v c.at-2.ensures c.at.ensures) m.name c.in_ok-kind.ensures o
    c.in_ok-view.ensures m.properties (defined_first t u _ (n.a u c.at-2.ensures).at m.name.2) c.cell_of.ensures.cell c.cell_of.ensures.place
