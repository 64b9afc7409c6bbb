use Rattle.std.proofs.Common.{◌≡◌, ◌*◌}
use Rattle.par_flat.proofs.TextLemmas.{AreTaken}
use Rattle.par_flat.proofs.crew.front_of.Given as goal

abbrev pub invariant-loop-lines : goal.invariant-loop-lines
invariant-loop-lines l = record {
  workers : l.workers ≡ l.lines-index;
  items : l.items ≡ l.lines-index * l.fn.most.items;
  taken : AreTaken l.waiting l.fn.most l.lines-index;
}
