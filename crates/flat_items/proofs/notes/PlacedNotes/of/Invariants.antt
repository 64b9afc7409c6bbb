use Rattle.flat_items.specs.Named.{AreNamed}
use Rattle.flat_items.proofs.NoteLemmas.{AreSoFar}
use Rattle.flat_items.proofs.notes.PlacedNotes.of.Given as goal

abbrev pub invariant-loop-place : goal.invariant-loop-place
invariant-loop-place g l = record {
  named : AreNamed (g.S.Shown.design l.design) l.named;
  so_far : AreSoFar (g.S.Shown.design l.design) l.top l.place l.notes;
}
