use Rattle.std.proofs.Common.{arith}
use Rattle.netlist_pages.proofs.PageLemmas.{spot_here}
use Rattle.netlist_pages.proofs.spots.spot_of.Goals as goal

pub returns-clause-there : goal.returns-clause-there
returns-clause-there g c =
    let pages = c.args.pages.now in
    let is = c.page_of-page.ensures in
    rw c.start_of.ensures (spot_here pages c.args.place c.page_of-page.result is (omega (arith, is.there)))
