use Rattle.std.proofs.Common.{◌∷◌, ap}
use Rattle.std.proofs.lemmas.List.{replicate-append-replicate}
use Rattle.netdb_outside.proofs.BufferedLemmas.{writes_then, writes_same}
use Rattle.edif_writer.proofs.spelled.put_far.Goals as goal

pub loop-preserved : goal.loop-preserved
loop-preserved g c = writes_same (ap (λ v. 10 ∷ v) (replicate-append-replicate c.loop.counter 1 32)) (writes_then c.loop.invariant c.put-in-loop.ensures)
