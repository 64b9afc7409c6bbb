use Rattle.std.proofs.Common.{◌≡◌, ◌≤◌, List, arith, length, map, sym, subst, true}
use Rattle.std.specs.List.{AllByRecursion}
use Rattle.edif_spelling_spec.specs.Tree.{Placed, Word', bare}
use Rattle.edif_spec.specs.Design as design
use Rattle.edif_spec.specs.Means.{MeansCellRef, MeansLibraryRef}
use Rattle.edif_spec.specs.Rows.{has_keyword}
use Rattle.edif_spec.specs.Stands.{CellRefFault, Dangles}
use Rattle.edif_spec.specs.declared.keyword.Keyword.TheVariants.{LibraryRef}
use Rattle.edif_spec.proofs.KnownForms.{only}
use Rattle.edif_tree.specs.Handles.{here, all}
use Rattle.edif_parts.proofs.Answering.{hand_on}
use Rattle.edif_contents.proofs.RefLemmas.{LibraryFault, cell_fails, cell_ref_means, cell_ref_node, library_fails, library_follows}
use Rattle.edif_contents.proofs.references.read_cell_ref.Goals as goal

pub read_library-requires : goal.read_library-requires
read_library-requires c =
    let a = c.in_ok-parts.ensures in
    let l = library_follows (here c.args.node) a.fits in
    subst (λ v. AllByRecursion (λ u. has_keyword LibraryRef (bare u) ≡ true) v × (length v ≤ 1)) (sym a.inner) (l.0, l.1)

pub returns-in_err-lib : goal.returns-in_err-lib
returns-in_err-lib c =
    let t = here c.args.node in
    let a = c.in_ok-parts.ensures in
    let libs = c.args.libs.now.libs in
    hand_on (MeansCellRef libs c.args.own (bare t)) (LibraryFault libs c.args.own (all c.in_ok-parts.parts.inner) c.in_ok-parts.parts.place) (CellRefFault libs c.args.own t) c.from_residual-in_err-lib.result c.in_err-lib.field-0.0 c.from_residual-in_err-lib.ensures.1
    (λ f b. library_fails libs c.args.own t c.in_ok-parts.parts.place f a.place (library_follows t a.fits).2 (subst (λ v. LibraryFault libs c.args.own v c.in_ok-parts.parts.place f) a.inner b)) c.in_err-lib.ensures

pub at-requires : goal.at-requires
at-requires c = omega (arith, (cell_ref_node (here c.args.node) c.in_ok-parts.parts c.in_ok-parts.ensures).count)

pub reference_at-name-requires : goal.reference_at-name-requires
reference_at-name-requires c = only _ ((cell_ref_node (here c.args.node) c.in_ok-parts.parts c.in_ok-parts.ensures).a (here c.at.result) c.at.ensures).is

pub returns-in_err-slot : goal.returns-in_err-slot
returns-in_err-slot c =
    let t = here c.args.node in
    let u = here c.at.result in
    let a = c.in_ok-parts.ensures in
    let libs = c.args.libs.now.libs in
    let lib = c.in_ok-lib.lib in
    let name = c.reference_at-name.result in
    let scope = design.cell_ids libs lib in
    let n = cell_ref_node t c.in_ok-parts.parts a in
    let L : List Placed → Type 0 = λ v. MeansLibraryRef libs c.args.own (map bare v) lib in
    hand_on (MeansCellRef libs c.args.own (bare t)) (Dangles scope (Word' name.place name.name.now)) (CellRefFault libs c.args.own t) c.from_residual-in_err-slot.result c.in_err-slot.field-0.0 c.from_residual-in_err-slot.ensures.1
    (λ f b. cell_fails libs c.args.own t u name.name.now name.place lib f (n.a u c.at.ensures).at (library_follows t a.fits).2 (subst L a.inner c.in_ok-lib.ensures) c.reference_at-name.ensures b)
    (c.in_err-slot.ensures scope name.name.now c.cell.ensures)

pub returns : goal.returns
returns c =
    let t = here c.args.node in
    let u = here c.at.result in
    let a = c.in_ok-parts.ensures in
    let libs = c.args.libs.now.libs in
    let lib = c.in_ok-lib.lib in
    let name = c.reference_at-name.result in
    let n = cell_ref_node t c.in_ok-parts.parts a in
    let L : List Placed → Type 0 = λ v. MeansLibraryRef libs c.args.own (map bare v) lib in
    cell_ref_means libs c.args.own t u name.name.now name.place lib c.in_ok-slot.slot (n.form u c.at.ensures) (library_follows t a.fits).2 (subst L a.inner c.in_ok-lib.ensures) c.reference_at-name.ensures
    (c.in_ok-slot.ensures (design.cell_ids libs lib) name.name.now c.cell.ensures)
