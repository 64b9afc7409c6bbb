use Rattle.std.proofs.Common.{◌≡◌, ◌++◌, drop}
use Rattle.std.specs.Prelude.{filter, not}
use Rattle.std.specs.List.{list_any}
use Rattle.flat_spec.specs.Effective.{same_key}
use Rattle.annot_view.specs.Lent.{lent}
use Rattle.annot_view.proofs.properties.with_others.Given as goal

-- the properties so far, and what the notes that are left add
abbrev pub invariant-loop-note : goal.invariant-loop-note
invariant-loop-note l =
    l.properties.items ++ filter (λ note. not (list_any (same_key note) l.base)) (lent (drop l.note-index l.notes))
    ≡ l.initial.properties.items ++ filter (λ note. not (list_any (same_key note) l.base)) (lent l.notes)
