use Rattle.par_flat.specs.Parts.{AreJoined}
use Rattle.par_flat.proofs.items.joined.Given as goal

abbrev pub invariant-loop-part : goal.invariant-loop-part
invariant-loop-part l = AreJoined l.yielded l.all.items
