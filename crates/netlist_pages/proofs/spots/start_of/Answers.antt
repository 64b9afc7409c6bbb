use Rattle.std.proofs.Common.{arith}
use Rattle.netlist_pages.proofs.PageLemmas.{start_is, start_within}
use Rattle.netlist_pages.proofs.spots.start_of.Goals as goal

pub bounds-ends-page : goal.bounds-ends-page
bounds-ends-page g c = omega (arith, start_within c.args._pages.now c.args.ends.now c.args.page c.requires.there c.requires.sums)

pub returns : goal.returns
returns g c = start_is c.args._pages.now c.args.ends.now c.args.page (omega arith) c.requires.there c.requires.sums
