use Rattle.std.proofs.Common.{◌≡◌, List, Option, Some, ap, sym, subst, map}
use Rattle.std.specs.Prelude.{option_map, IfSome}
use Rattle.edif_spec.specs.Arranged.{arranged, orders_from, new_top}
use Rattle.edif_spec.specs.Canonical.{layout, note_tree}
use Rattle.edif_spec.specs.Design as design
use Rattle.edif_spec.proofs.Arrange.{valid_whole}
use Rattle.netlist_schema.specs.Hierarchy.{IsCell}
use Rattle.netlist_schema.specs.Names.{HasDistinctKeys}
use Rattle.edif_writer.specs.Lines.{lined}
use Rattle.edif_writer.proofs.ContentsTexts.{top_line_text}
use Rattle.edif_writer.proofs.Renumbered.{cell_ref_stays}
use Rattle.netdb_outside.proofs.BufferedLemmas.{writes_then, writes_same}
use Rattle.edif_writer.proofs.top.write_top_line.Goals as goal

pub returns-in-Some : goal.returns-in-Some
returns-in-Some g c =
    let d = g.S.Shown.design c.args.design.now in
    let orders = orders_from 0 d.libs in
    let libs = (arranged d).libs in
    let top = c.in-Some.top.now in
    let is : Some top ≡ d.top = c.in-Some.ensures.value in
    let P : design.TopHead → Type 0 = λ t. IsCell d t.cell × HasDistinctKeys t.properties in
    let there = subst (λ (o : Option design.TopHead). IfSome o P) (sym is) c.in-Some.ensures.valid.top in
    let cell = cell_ref_stays d.libs top.cell (valid_whole d c.in-Some.ensures.valid) there.0 in
    writes_same (top_line_text libs d.notes (option_map (new_top orders) d.top) (new_top orders top) (ap (option_map (new_top orders)) (sym is)))
    (writes_then c.put.ensures (writes_then (c.write_name.ensures 3) (writes_then c.put-in-Some.ensures (writes_then (writes_same (ap (layout 3) (sym cell)) (c.write_cell_ref.ensures 3))
    (writes_then c.write_property_lines.ensures (writes_then (writes_same (ap (λ (ns : List design.Note). lined 2 (map note_tree ns)) c.notes.ensures) c.write_note_lines.ensures) c.put-in-Some-2.ensures))))))
