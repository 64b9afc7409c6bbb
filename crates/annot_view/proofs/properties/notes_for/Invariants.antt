use Rattle.std.proofs.Common.{◌≡◌, ◌++◌, drop}
use Rattle.flat_spec.specs.Effective.{notes_for}
use Rattle.annot_view.specs.Lent.{lent, lent_names}
use Rattle.annot_view.proofs.properties.notes_for.Given as goal

-- what was found so far, and what the notes that are left have
abbrev pub invariant-loop-note : goal.invariant-loop-note
invariant-loop-note l =
    lent l.found.items ++ notes_for (lent_names l.insts) (drop l.note-index l.notes) ≡ notes_for (lent_names l.insts) l.notes
