use Rattle.std.proofs.Common.{◌≡◌, drop}
use Rattle.std.specs.Prelude.{find}
use Rattle.flat_spec.specs.Effective.{same_key}
use Rattle.annot_view.specs.Lent.{lent}
use Rattle.annot_view.proofs.properties.replaced.Given as goal

-- the notes that are left decide
abbrev pub invariant-loop-note : goal.invariant-loop-note
invariant-loop-note l = find (same_key l.property) (lent (drop l.note-index l.notes)) ≡ find (same_key l.property) (lent l.notes)
