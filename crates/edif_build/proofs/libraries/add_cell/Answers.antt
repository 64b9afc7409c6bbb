use Rattle.std.proofs.Common.{◌<◌, ◌≤◌, ℕ, [], ◌∷◌, ◌++◌, length, Some, Option, ◌∙◌, subst, arith}
use Rattle.edif_spec.specs.Stands.{CellFault}
use Rattle.edif_tree.specs.Handles.{here}
use Rattle.edif_contents.specs.Known.{AddsCell}
use Rattle.edif_build.specs.Libraries.{CellsAre, CellsFail, FailsAt}
use Rattle.edif_parts.proofs.Answering.{hand_on}
use Rattle.edif_build.proofs.LibraryLemmas.{cell_added, cell_fault, cell_repeats, cell_beyond, some_library}
use Rattle.edif_grammar.proofs.Misplaced.{place_is}
use Rattle.edif_build.proofs.libraries.add_cell.Goals as goal

pub add-requires : goal.add-requires
add-requires c = let k = c.requires.known in some_library k.0 k.1 k.2 k.3 c.args.libs.now k.4

pub returns-then-count-ge-MOST_CELLS : goal.returns-then-count-ge-MOST_CELLS
returns-then-count-ge-MOST_CELLS c = λ before head names ts k o.
    let t = here c.args.node in
    let l : 65536 ≤ length c.args.libs.now.cell_names = omega arith in
    rw c.over_limit.ensures (cell_beyond before head names ts t c.args.libs.now c.place.result k l (c.place.ensures ∙ place_is t))

pub returns-in_err-cell : goal.returns-in_err-cell
returns-in_err-cell c = λ before head names ts k o.
    let t = here c.args.node in
    hand_on (λ _. CellsAre before head names (ts ++ t ∷ []) c.args.libs.now) (CellFault c.args.libs.now.libs (Some c.args.own) t) (FailsAt (CellsFail before head) ts t) c.from_residual.result c.in_err-cell.field-0.0
    c.from_residual.ensures.1 (λ f b. cell_fault before head names ts t c.args.libs.now c.args.own f k o b) c.in_err-cell.ensures

pub returns-in-Some : goal.returns-in-Some
returns-in-Some c = λ before head names ts k o.
    let t = here c.args.node in
    let P : Option ℕ → Type 0 = λ v. AddsCell c.args.libs.now c.in_ok-cell.cell.cell c.in_ok-cell.cell.place c.add.new.self v in
    rw c.clash.ensures (cell_repeats before head names ts t c.args.libs.now c.add.new.self (Some c.args.own) c.in_ok-cell.cell c.in-Some.earlier k c.in_ok-cell.ensures (subst P c.in-Some.is c.in_ok-earlier.ensures.ok))

pub returns-in-None : goal.returns-in-None
returns-in-None c = λ before head names ts k o.
    let t = here c.args.node in
    let P : Option ℕ → Type 0 = λ v. AddsCell c.args.libs.now c.in_ok-cell.cell.cell c.in_ok-cell.cell.place c.add.new.self v in
    let l : length c.args.libs.now.cell_names < 65536 = omega arith in
    cell_added before head names ts t c.args.libs.now c.add.new.self c.args.own c.in_ok-cell.cell k o c.in_ok-cell.ensures l (subst P c.in-None.is c.in_ok-earlier.ensures.ok)
