use Rattle.std.proofs.Common.{List, map, subst, sym}
use Rattle.std.specs.List.{All}
use Rattle.netlist_schema.specs.Hierarchy.{IsCell}
use Rattle.netlist_schema.specs.Types.{CellId}
use Rattle.net_classes.specs.Facts.{Facts, facts_of}
use Rattle.net_classes.specs.Known.{AreKnown}
use Rattle.net_classes.proofs.KnownLemmas.{are_classes, below_there}
use Rattle.net_classes.proofs.classes.Classes.of.Goals as goal

pub tell_all-requires-clause-there : goal.tell_all-requires-clause-there
tell_all-requires-clause-there g c =
    let d = g.S.Shown.design c.args.design.now in
    subst (λ (v : List CellId). All (IsCell d) v) (sym c.as_slice.ensures.value)
    (below_there d c.args.top c.in_ok-below.below.items c.in_ok-cells.ensures.valid c.requires c.in_ok-below.ensures)

pub returns : goal.returns
returns g c =
    let d = g.S.Shown.design c.args.design.now in
    let facts : Facts = map (λ row. map facts_of row.items) c.tell_all.new.cells.items in
    are_classes d c.args.top c.in_ok-below.below.items facts c.in_ok-below.ensures
    (subst (λ v. AreKnown d v facts) c.as_slice.ensures.value c.in_ok-tell_all.ensures)
