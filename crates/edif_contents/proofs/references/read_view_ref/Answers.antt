use Rattle.std.proofs.Common.{[], ◌∷◌, arith}
use Rattle.edif_spelling_spec.specs.Tree.{Word', bare}
use Rattle.edif_spec.specs.Design as design
use Rattle.edif_spec.specs.Means.{MeansViewRef}
use Rattle.edif_spec.specs.Stands.{CellRefFault, Dangles, ViewRefFault}
use Rattle.edif_spec.specs.Stands as stands
use Rattle.edif_spec.specs.declared.keyword.Keyword.TheVariants.{CellRef}
use Rattle.edif_spec.proofs.KnownForms.{form_choice, only}
use Rattle.edif_tree.specs.Handles.{here}
use Rattle.edif_parts.proofs.Answering.{hand_on}
use Rattle.edif_contents.proofs.RefLemmas.{view_fails, view_ref_means, view_ref_nodes}
use Rattle.edif_contents.proofs.references.read_view_ref.Goals as goal

pub at-requires : goal.at-requires
at-requires c = omega (arith, (view_ref_nodes (here c.args.node) c.in_ok-parts.parts c.in_ok-parts.ensures).count)

pub read_cell_ref-requires : goal.read_cell_ref-requires
read_cell_ref-requires c = form_choice CellRef (here c.at.result) ((view_ref_nodes (here c.args.node) c.in_ok-parts.parts c.in_ok-parts.ensures).b (here c.at.result) c.at.ensures).is

pub returns-in_err-cell : goal.returns-in_err-cell
returns-in_err-cell c =
    let t = here c.args.node in
    let v = here c.at.result in
    let libs = c.args.libs.now.libs in
    let b = (view_ref_nodes t c.in_ok-parts.parts c.in_ok-parts.ensures).b v c.at.ensures in
    hand_on (MeansViewRef libs c.args.own (bare t)) (CellRefFault libs c.args.own v) (ViewRefFault libs c.args.own t) c.from_residual-in_err-cell.result c.in_err-cell.field-0.0 c.from_residual-in_err-cell.ensures.1
    (λ f h. stands.view_ref_cell (v, b.at, form_choice CellRef v b.is, h)) c.in_err-cell.ensures

pub at-requires-2 : goal.at-requires-2
at-requires-2 c = omega (arith, (view_ref_nodes (here c.args.node) c.in_ok-parts.parts c.in_ok-parts.ensures).count)

pub reference_at-name-requires : goal.reference_at-name-requires
reference_at-name-requires c = only _ ((view_ref_nodes (here c.args.node) c.in_ok-parts.parts c.in_ok-parts.ensures).a (here c.at-2.result) c.at-2.ensures).is

pub returns-in_err-resolve : goal.returns-in_err-resolve
returns-in_err-resolve c =
    let t = here c.args.node in
    let u = here c.at-2.result in
    let v = here c.at.result in
    let libs = c.args.libs.now.libs in
    let cell = c.in_ok-cell.cell in
    let n = view_ref_nodes t c.in_ok-parts.parts c.in_ok-parts.ensures in
    let name = c.reference_at-name.result in
    let scope = design.view_id libs cell ∷ [] in
    hand_on (MeansViewRef libs c.args.own (bare t)) (Dangles scope (Word' name.place name.name.now)) (ViewRefFault libs c.args.own t) c.from_residual-in_err-resolve.result c.in_err-resolve.field-0.0 c.from_residual-in_err-resolve.ensures.1
    (λ f b. view_fails libs c.args.own t u v name.name.now name.place cell f (n.a u c.at-2.ensures).at (n.b v c.at.ensures).at c.in_ok-cell.ensures c.reference_at-name.ensures b)
    (c.in_err-resolve.ensures scope name.name.now c.view.ensures)

pub returns : goal.returns
returns c =
    let t = here c.args.node in
    let u = here c.at-2.result in
    let v = here c.at.result in
    let libs = c.args.libs.now.libs in
    let cell = c.in_ok-cell.cell in
    let name = c.reference_at-name.result in
    view_ref_means libs c.args.own t u v name.name.now name.place _ cell ((view_ref_nodes t c.in_ok-parts.parts c.in_ok-parts.ensures).form u v c.at-2.ensures c.at.ensures) c.in_ok-cell.ensures c.reference_at-name.ensures
    (c.in_ok-resolve.ensures (design.view_id libs cell ∷ []) name.name.now c.view.ensures)
