use Rattle.std.proofs.Common.{◌∙◌, ◌++◌, ◌∷◌, [], ap, sym, map, take, get_or, append-nil}
use Rattle.std.proofs.lemmas.List.{map-append}
use Rattle.netlist_schema.proofs.Lists.{some_of}
use Rattle.edif_spec.specs.Arranged.{arranged, new_cell, new_cells, orders_from}
use Rattle.edif_spec.specs.Canonical.{layout, new_line, cell_tree}
use Rattle.edif_spec.proofs.Arrange.{valid_whole}
use Rattle.netlist_schema.specs.Design.{cells_in, cell_at}
use Rattle.netlist_schema.specs.Types.{CellId}
use Rattle.edif_writer.specs.Lines.{lined}
use Rattle.edif_writer.proofs.FormTexts.{lined-append}
use Rattle.edif_writer.proofs.Places.{cells_more, valid_there}
use Rattle.edif_writer.proofs.Renumbered.{cell_stays}
use Rattle.netdb_outside.proofs.BufferedLemmas.{writes_then, writes_same}
use Rattle.edif_writer.proofs.library.write_cell_lines.Goals as goal

pub loop-slot-preserved : goal.loop-slot-preserved
loop-slot-preserved g c =
    let d = g.S.Shown.design c.args.design.now in
    let orders = orders_from 0 d.libs in
    let cells = cells_in d c.args.lib in
    let tree = cell_tree (arranged d).libs in
    let i = c.loop-slot.slot-index in
    let slot = get_or c.args.order.now i 0 in
    let id : CellId = record { lib = c.args.lib; slot = slot } in
    let cell = some_of (cell_at d id) (c.requires.there i 0 c.loop-slot-test.true) in
    let before = new_cells orders cells (take i c.args.order.now) in
    let stays = cell_stays d.libs cell.0 (valid_whole d c.requires.valid) (valid_there d id cell.0 (c.requires.valid.cells id cell.0 cell.1)) in
    let last = append-nil (new_line 2 ++ layout 3 (cell_tree d.libs cell.0)) in
    let more = cells_more orders cells c.args.order.now i cell.0 c.loop-slot-test.true cell.1 in
    writes_same (ap (λ t. lined 2 (map tree before) ++ t) (sym last)
    ∙ (ap (λ t. lined 2 (map tree before) ++ lined 2 (t ∷ [])) (sym stays)
    ∙ (sym (lined-append 2 (map tree before) (tree (new_cell orders cell.0) ∷ []))
    ∙ (ap (lined 2) (sym (map-append tree before (new_cell orders cell.0 ∷ []))) ∙ ap (λ cs. lined 2 (map tree cs)) (sym more)))))
    (writes_then c.loop-slot.invariant (c.write_cell_line.ensures cell.0 cell.1))
