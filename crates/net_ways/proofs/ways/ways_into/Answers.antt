use Rattle.net_ways.specs.Ways.{joints_in}
use Rattle.net_ways.proofs.WayLemmas.{each_permuted, sorted_ways}
use Rattle.net_ways.proofs.ways.ways_into.Goals as goal

pub returns : goal.returns
returns g c = record {
  each =
      each_permuted (g.S.Shown.design c.args.design.now) c.args.classes.now c.args.cell (joints_in c.args.classes.now c.args.cell) c.in_ok-ways.ways.items c.sort.new.self.items c.sort.ensures.permutation
      c.in_ok-ways.ensures;
  in_order = sorted_ways c.sort.new.self.items c.in_ok-sort.ensures.sorted;
}
