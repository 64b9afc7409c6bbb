use Rattle.std.proofs.Common.{◌≡◌, [], Some, None, sym, ap, ◌∙◌, slice_get}
use Rattle.std.specs.Option.{option_copied}
use Rattle.netlist_schema.specs.Hierarchy.{insts_at}
use Rattle.netlist_schema.specs.Types.{CellId}
use Rattle.flat_spec.specs.Paths.{Reaches, cell_along}
use Rattle.flat_items.specs.Stand.{top_of}
use Rattle.net_ways.proofs.AlongLemmas.{no_step_more, nowhere_above}
use Rattle.flat_ask.proofs.AskLemmas.{base_below}
use Rattle.flat_ask.proofs.ask.properties_below.Goals as goal

pub returns-in_default : goal.returns-in_default
returns-in_default g c =
    let d = g.S.Shown.design c.args.design.now in
    let none : cell_along d (top_of d).cell c.args.above.now ≡ None = ap (λ (r : CellId). cell_along d r c.args.above.now) (sym c.top_cell.ensures) ∙ sym c.cell_along.ensures ∙ c.in_default.is in
    nowhere_above d (top_of d).cell c.args.above.now c.args.step none

pub returns-in_default-inst_at : goal.returns-in_default-inst_at
returns-in_default-inst_at g c =
    let d = g.S.Shown.design c.args.design.now in
    let reached : Reaches d (top_of d).cell c.args.above.now c.in-Some.up = ap (λ (r : CellId). cell_along d r c.args.above.now) (sym c.top_cell.ensures) ∙ sym c.cell_along.ensures ∙ c.in-Some.is in
    let none : slice_get (insts_at d c.in-Some.up) c.args.step ≡ None = sym c.inst_at.ensures ∙ ap option_copied c.in_default-inst_at.is in
    no_step_more d (top_of d).cell c.args.above.now [] c.args.step c.in-Some.up reached none

pub returns : goal.returns
returns g c =
    let d = g.S.Shown.design c.args.design.now in
    let reached : Reaches d (top_of d).cell c.args.above.now c.in-Some.up = ap (λ (r : CellId). cell_along d r c.args.above.now) (sym c.top_cell.ensures) ∙ sym c.cell_along.ensures ∙ c.in-Some.is in
    let some : slice_get (insts_at d c.in-Some.up) c.args.step ≡ Some c.in-Some-inst_at.inst.now = sym c.inst_at.ensures ∙ ap option_copied c.in-Some-inst_at.is in
    base_below d c.args.above.now c.in-Some.up c.args.step c.in-Some-inst_at.inst.now c.as_slice.result.now reached some c.as_slice.ensures
