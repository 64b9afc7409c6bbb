use Rattle.par_flat.proofs.CrewLemmas.{AreExchanged}
use Rattle.par_flat.proofs.crew.exchange.Given as goal

abbrev pub invariant-loop-worker : goal.invariant-loop-worker
invariant-loop-worker l = AreExchanged l.fn.desks.items l.worker l.desks.items l.waiting.items
