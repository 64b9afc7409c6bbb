use Rattle.std.proofs.Common.{List, subst, sym}
use Rattle.std.proofs.lemmas.Result.{IfOk-weaker}
use Rattle.std.specs.List.{All}
use Rattle.netlist_schema.specs.Hierarchy.{IsCell}
use Rattle.netlist_schema.specs.Types.{CellId}
use Rattle.par_parts.specs.Items.{AreCounted, AreCounts}
use Rattle.par_parts.proofs.CountLemmas.{are_counts, below_there}
use Rattle.par_parts.proofs.counts.count_items.Goals as goal

pub count_below-requires-clause-there : goal.count_below-requires-clause-there
count_below-requires-clause-there g c =
    let d = g.S.Shown.design c.args.design.now in
    subst (λ (v : List CellId). All (IsCell d) v) (sym c.as_slice.ensures.value)
    (below_there d c.args.top c.in_ok-below.below.items c.requires.valid c.requires.is c.in_ok-below.ensures)

pub returns : goal.returns
returns g c =
    let d = g.S.Shown.design c.args.design.now in
    IfOk-weaker c.count_below.result (AreCounted d c.as_slice.result.now) (AreCounts d c.args.top)
    (λ counts counted. are_counts d c.args.top c.in_ok-below.below.items counts c.in_ok-below.ensures
    (subst (λ v. AreCounted d v counts) c.as_slice.ensures.value counted)) c.count_below.ensures
