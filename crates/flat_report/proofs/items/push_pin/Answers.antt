use Rattle.std.proofs.Common.{◌≡◌, ◌∙◌, [], ◌∷◌, ◌++◌, Option, ap}
use Rattle.std.specs.Prelude.{codes}
use Rattle.std.specs.Fmt.{decimal}
use Rattle.std.specs.Option.{option_map, option_map_or}
use Rattle.std.proofs.lemmas.Result.{on_ok_weaker}
use Rattle.netlist_schema.specs.Design.{Design}
use Rattle.netlist_schema.specs.Types.{CellId, Port}
use Rattle.flat_spec.specs.Paths.{port_of_cell}
use Rattle.flat_lines_spec.specs.Lines.{net_words, path_text, port_text}
use Rattle.flat_report.specs.Parts.{behind_blanks}
use Rattle.flat_items.specs.Lent.{net_of}
use Rattle.flat_report.proofs.LineLemmas.{one_word, more_words}
use Rattle.flat_report.proofs.items.push_pin.Goals as goal

pub returns-clause-ok : goal.returns-clause-ok
returns-clause-ok g c =
    let d = g.S.Shown.design c.args.design.now in
    let old = c.args.out.now.items in
    let begun = c.extend_from_slice.new.self.items in
    let placed = c.push_place.new.out.items in
    let named = c.push_bit.new.out.items in
    let whole = c.push_joined.new.out.items in
    let path = path_text d c.args.path.now in
    let port = port_text d c.args.path.now c.args.port in
    let bit = decimal c.args.bit in
    let joined = option_map_or (net_words d) (option_map net_of c.args.first) (codes "-" ∷ []) in
    let named_in = λ (of : Design) (cell : Option CellId). option_map_or (λ (p : Port). p.name.id) (port_of_cell of cell c.args.port) [] in
    let is = c.port_name.ensures ∙ ap (λ cell. named_in d cell) c.in_ok-cell.ensures.cell in
    let place = more_words old begun placed (codes "pin") [] (path ∷ []) c.in_ok-extend_from_slice.ensures.items (c.in_ok-cell.ensures.text ∙ ap (λ text. begun ++ text) (one_word path)) in
    let names = more_words old placed named (codes "pin") (path ∷ []) (port ∷ bit ∷ []) place (c.in_ok-push_bit.ensures.ok ∙ ap (λ name. placed ++ behind_blanks (name ∷ bit ∷ [])) is) in
    on_ok_weaker c.push_joined.result
    (λ (last : whole ≡ named ++ behind_blanks joined). more_words old named whole (codes "pin") (path ∷ port ∷ bit ∷ []) joined names last)
    c.push_joined.ensures.ok
