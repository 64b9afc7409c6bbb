use Rattle.std.proofs.Common.{subst, sym}
use Rattle.netlist_schema.specs.Types.{CellId}
use Rattle.flat_cells.specs.Below.{AreCellsBelow}
use Rattle.net_rows.specs.Tops.{AreTops}
use Rattle.net_pins.proofs.KeptLemmas.{all_there}
use Rattle.net_pins.proofs.kept.keep.Goals as goal

pub of-requires-clause-there : goal.of-requires-clause-there
of-requires-clause-there g c =
    let d = g.S.Shown.design c.args.ground.now.design in
    all_there d c.args.ground.now.classes c.args.ground.now.notes c.requires.ground c.args.below.now (subst (λ (t : CellId). AreCellsBelow d t c.args.below.now) (sym c.requires.is_top) c.requires.below)

pub returns : goal.returns
returns g c =
    let d = g.S.Shown.design c.args.ground.now.design in
    record {
      below = c.args.below.now;
      are_below = subst (λ (t : CellId). AreCellsBelow d t c.args.below.now) (sym c.requires.is_top) c.requires.below;
      rows = c.in_ok-rows.ensures;
      tops = subst (λ (t : CellId). AreTops c.args.role d c.args.ground.now.classes t c.in_ok-tops.tops) (sym c.requires.is_top) c.in_ok-tops.ensures;
    }
