use Rattle.flat_spec.specs.Occurrences.{own_nets}
use Rattle.flat_spec.proofs.RunLemmas.{piece_more}
use Rattle.design_model.proofs.walk.list_nets.Goals as goal

pub loop-occurrence-preserved : goal.loop-occurrence-preserved
loop-occurrence-preserved g c =
    piece_more (own_nets (g.S.Shown.design c.args.design.now)) c.args.occurrences.now c.loop-occurrence.occurrence-index c.occurrence-item.result
    c.loop-occurrence.found.items c.list_own.new.found.items _ c.loop-occurrence-test.true c.occurrence-item.is c.in_ok-list_own.ensures c.loop-occurrence.invariant
