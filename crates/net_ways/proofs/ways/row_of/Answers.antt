use Rattle.std.proofs.Common.{◌+◌, map, subst}
use Rattle.net_ways.specs.Ways.{AreWaysOf}
use Rattle.net_ways.proofs.WayLemmas.{pushed, ways_more}
use Rattle.net_ways.proofs.ways.row_of.Goals as goal

pub loop-slot-preserved : goal.loop-slot-preserved
loop-slot-preserved g c =
    let d = g.S.Shown.design c.args.design.now in
    subst (AreWaysOf d c.args.classes.now c.args.lib.0 (c.loop-slot.slot + 1)) (pushed c.loop-slot.row.items c.push.new.self.items c.in_ok-ways.ways c.in_ok-push.ensures.items (λ ways. ways.items))
    (ways_more d c.args.classes.now c.args.lib.0 c.loop-slot.slot (map (λ ways. ways.items) c.loop-slot.row.items) c.in_ok-ways.ways.items c.loop-slot.invariant c.in_ok-ways.ensures)
