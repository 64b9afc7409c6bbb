use Rattle.std.proofs.Common.{rules, ◌≡◌, ◌++◌, ◌∷◌, []}
use Rattle.par_flat.proofs.DeskLemmas.{desks_more}
use Rattle.par_flat.proofs.desks.desks_of.Goals as goal

pub loop-worker-preserved : goal.loop-worker-preserved
loop-worker-preserved c =
    let desk = c.new_desk-desk.result in
    let items : c.push.new.self.items ≡ c.loop-worker.desks.items ++ desk ∷ [] = search rules in
    let more = desks_more c.loop-worker.desks.items c.push.new.self.items desk c.loop-worker.worker items c.loop-worker.invariant.len c.loop-worker.invariant.each
    c.new_desk-desk.ensures.worker c.new_desk-desk.ensures.seat in
    record { len = more.0; each = more.1 }
