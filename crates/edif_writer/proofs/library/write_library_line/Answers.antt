use Rattle.std.proofs.Common.{◌≡◌, [], ◌∷◌, ◌++◌, Option, Some, None, map, refl, ap, sym, ◌∙◌}
use Rattle.std.specs.Prelude.{codes, option_map}
use Rattle.std.specs.Option.{option_map_or}
use Rattle.edif_spec.specs.Arranged.{arranged, order_of, orders_from, new_cells}
use Rattle.edif_spec.specs.Canonical.{layout, cell_tree, library_keyword, library_tree, name_text, name_tree}
use Rattle.edif_spec.specs.Design.{Lib, LibHead}
use Rattle.edif_spec.specs.Keyword.{spelling_of}
use Rattle.netlist_schema.specs.Design.{lib_at, cells_in}
use Rattle.edif_writer.specs.Lines.{lined}
use Rattle.edif_writer.proofs.Places.{order_there}
use Rattle.edif_writer.proofs.Renumbered.{moved_lib}
use Rattle.edif_writer.proofs.WholeTexts.{library_text}
use Rattle.netdb_outside.proofs.BufferedLemmas.{writes_then, writes_same, ran_out}
use Rattle.edif_writer.proofs.library.write_library_line.Goals as goal

of_head : (o : Option Lib) (h : LibHead) → Some h ≡ option_map (λ (l : Lib). l.head) o → (l : Lib) × (o ≡ Some l)
of_head None h e = absurd (cc e)
of_head (Some l) h e = (l, refl)

pub returns-in_default : goal.returns-in_default
returns-in_default g c lib found = ran_out c.args.out.now c.args.page.now c.run_out.new.self _ (sym c.is_stuck.ensures ∙ c.if-is_stuck.false) c.run_out.ensures

pub write_cell_lines-requires-clause-there : goal.write_cell_lines-requires-clause-there
write_cell_lines-requires-clause-there g c =
    let d = g.S.Shown.design c.args.design.now in
    let own = c.args.lib.0 in
    let l = of_head (lib_at d c.args.lib) c.in-Some.head.now c.in-Some.ensures in
    order_there d own l.0 c.as_slice.result.now l.1 (c.as_slice.ensures.value ∙ (c.in-Ok.ensures ∙ ap (λ o. order_of own (option_map_or (λ (x : Lib). x.cells) o [])) l.1))

pub returns-in-Some : goal.returns-in-Some
returns-in-Some g c lib found =
    let d = g.S.Shown.design c.args.design.now in
    let own = c.args.lib.0 in
    let orders = orders_from 0 d.libs in
    let libs = (arranged d).libs in
    let old = moved_lib d.libs own lib found in
    let l = old.0 in
    let order = order_of own l.cells in
    let new : Lib = record { head = l.head; cells = new_cells orders l.cells order } in
    let heads : Some c.in-Some.head.now ≡ Some l.head = c.in-Some.ensures ∙ ap (option_map (λ (x : Lib). x.head)) old.1 in
    let head : c.in-Some.head.now ≡ l.head = cc in
    let sorted : c.as_slice.result.now ≡ order = c.as_slice.ensures.value ∙ (c.in-Ok.ensures ∙ ap (λ o. order_of own (option_map_or (λ (x : Lib). x.cells) o [])) old.1) in
    let cells : new_cells orders (cells_in d c.args.lib) c.as_slice.result.now ≡ new.cells =
    ap (λ o. new_cells orders (option_map_or (λ (x : Lib). x.cells) o []) c.as_slice.result.now) old.1 ∙ ap (new_cells orders l.cells) sorted in
    let opening = c.library_opening.ensures ∙ ap (λ (h : LibHead). 40 ∷ name_text (spelling_of (library_keyword h.external))) head in
    let name = ap (λ (h : LibHead). layout 3 (name_tree h.name)) head in
    writes_same (ap (λ v. codes "\n " ++ v) (library_text libs new) ∙ ap (λ (x : Lib). codes "\n " ++ layout 2 (library_tree libs x)) (sym old.2))
    (writes_then c.put.ensures (writes_then (writes_same opening c.put-in-Some.ensures) (writes_then c.put-in-Some-2.ensures
    (writes_then (writes_same name (c.write_name.ensures 3)) (writes_then c.put-in-Some-3.ensures
    (writes_then (writes_same (ap (λ bodies. lined 2 (map (cell_tree libs) bodies)) cells) c.write_cell_lines.ensures) c.put-in-Some-4.ensures))))))

pub returns : goal.returns
returns g c lib found =
    let d = g.S.Shown.design c.args.design.now in
    let old = moved_lib d.libs c.args.lib.0 lib found in
    let none = c.in_default-lib.ensures in
    let some = ap (option_map (λ (x : Lib). x.head)) old.1 in
    absurd (cc (none, some))
