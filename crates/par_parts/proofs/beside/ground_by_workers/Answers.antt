use Rattle.std.proofs.Common.{List, subst, sym}
use Rattle.std.specs.List.{All}
use Rattle.netlist_schema.specs.Hierarchy.{IsCell}
use Rattle.netlist_schema.specs.Types.{CellId}
use Rattle.flat_items.proofs.GroundLemmas.{top_is_cell}
use Rattle.flat_items.specs.Stand.{top_of}
use Rattle.par_parts.proofs.CountLemmas.{below_there}
use Rattle.par_parts.proofs.beside.ground_by_workers.Goals as goal

pub parts_of-requires-clause-there : goal.parts_of-requires-clause-there
parts_of-requires-clause-there g c = λ κs within.
    let d = g.S.Shown.design c.args.design in
    let is = subst (λ (v : CellId). IsCell d v) c.requires.is_top (top_is_cell d c.requires.valid (top_of d) c.requires.has_top) in
    subst (λ (v : List CellId). All (IsCell d) v) (sym c.as_slice-cells.ensures.value)
    (below_there d c.args.top c.in_ok-below.below.items c.requires.valid is c.in_ok-below.ensures)

pub parts_here-requires-clause-there : goal.parts_here-requires-clause-there
parts_here-requires-clause-there g c =
    let d = g.S.Shown.design c.args.design in
    let is = subst (λ (v : CellId). IsCell d v) c.requires.is_top (top_is_cell d c.requires.valid (top_of d) c.requires.has_top) in
    subst (λ (v : List CellId). All (IsCell d) v) (sym c.as_slice-cells.ensures.value)
    (below_there d c.args.top c.in_ok-below.below.items c.requires.valid is c.in_ok-below.ensures)
