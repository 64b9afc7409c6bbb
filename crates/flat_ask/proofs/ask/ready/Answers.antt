use Rattle.std.proofs.Common.{◌∙◌, List, ap, subst, sym}
use Rattle.netlist_schema.specs.Hierarchy.{IsCell}
use Rattle.netlist_schema.specs.Types.{CellId}
use Rattle.flat_cells.specs.Below.{AreCellsBelow}
use Rattle.flat_items.specs.Stand.{top_of}
use Rattle.net_pins.proofs.KeptLemmas.{top_is_cell}
use Rattle.flat_ask.proofs.AskLemmas.{if_ok_more}
use Rattle.flat_ask.proofs.ask.ready.Goals as goal

pub cells_below-requires : goal.cells_below-requires
cells_below-requires g c =
    let ground = c.in_ok-ground.ground in
    let d = g.S.Shown.design ground.design in
    subst (IsCell d) (ap (λ s. (top_of (g.S.Shown.design s)).cell) c.in_ok-ground.ensures.design ∙ c.requires.is_top) (top_is_cell d ground.classes ground.notes c.in_ok-ground.ensures.ground)

pub keep_shared-requires-clause-is_top : goal.keep_shared-requires-clause-is_top
keep_shared-requires-clause-is_top g c = ap (λ s. (top_of (g.S.Shown.design s)).cell) c.in_ok-ground.ensures.design ∙ c.requires.is_top

pub keep_shared-requires-clause-below : goal.keep_shared-requires-clause-below
keep_shared-requires-clause-below g c =
    subst (λ (cells : List CellId). AreCellsBelow (g.S.Shown.design c.in_ok-ground.ground.design) c.args.top cells) (sym c.as_slice-cells.ensures.value) c.in_ok-below.ensures

pub keep_shared-requires-2-clause-is_top : goal.keep_shared-requires-2-clause-is_top
keep_shared-requires-2-clause-is_top g c = ap (λ s. (top_of (g.S.Shown.design s)).cell) c.in_ok-ground.ensures.design ∙ c.requires.is_top

pub keep_shared-requires-2-clause-below : goal.keep_shared-requires-2-clause-below
keep_shared-requires-2-clause-below g c =
    subst (λ (cells : List CellId). AreCellsBelow (g.S.Shown.design c.in_ok-ground.ground.design) c.args.top cells) (sym c.as_slice-cells.ensures.value) c.in_ok-below.ensures

pub keep_shared-requires-3-clause-is_top : goal.keep_shared-requires-3-clause-is_top
keep_shared-requires-3-clause-is_top g c = ap (λ s. (top_of (g.S.Shown.design s)).cell) c.in_ok-ground.ensures.design ∙ c.requires.is_top

pub keep_shared-requires-3-clause-below : goal.keep_shared-requires-3-clause-below
keep_shared-requires-3-clause-below g c =
    subst (λ (cells : List CellId). AreCellsBelow (g.S.Shown.design c.in_ok-ground.ground.design) c.args.top cells) (sym c.as_slice-cells.ensures.value) c.in_ok-below.ensures

pub returns : goal.returns
returns g c = if_ok_more c.joined.result (λ ask is. is ∙ ap g.S.Shown.design c.in_ok-ground.ensures.design) c.joined.ensures
