-- A worked history: commits inside two cells, and which object and which commit a refusal names.
use Rattle.std.specs.Prelude.{ℕ, List, [], ◌∷◌, codes}
use Rattle.netlist_schema.specs.declared.ids.Object.TheVariants.{Contents}
use Rattle.edit_rules_spec.specs.declared.reply.Reply.TheVariants.{Done}
use Rattle.edit_spec.specs.declared.ops.Op.{Op}
use Rattle.edit_spec.specs.declared.ops.Op.TheVariants.{AddNet}
use Rattle.db_spec.specs.declared.event.Answer.TheVariants.{Pinned, Committed, Conflict}
use Rattle.db_spec.specs.declared.event.Call.TheVariants.{Pin, Commit}
use Rattle.db_spec.specs.declared.event.Event.{Event}
use Rattle.db_spec.specs.Example.{event, at_place, in_w, place}

-- adds a net to a cell of w
abbrev pub adds : List ℕ → List ℕ → List Op
adds net cell = AddNet (in_w cell) net ∷ []

-- places B in A, which reads the contents of both and writes those of A
abbrev pub b_in_a : List Op
b_in_a = place (codes "B") (codes "A") ∷ []

-- The first commit writes the contents of B, the second those of A, the third those of B once more. Caller 1 keeps version 0 pinned:
-- what it refuses names the least object that was read and written since, and the last commit that wrote it.
abbrev pub inside_commits : List Event
inside_commits =
    event 0 Pin (Pinned 0 0)
    ∷ event 1 Pin (Pinned 1 0)
    ∷ event 0 (Commit 0 (adds (codes "n") (codes "B"))) (Committed 1 (Done ∷ []))
    ∷ event 1 (Commit 1 b_in_a) (Conflict (Contents (at_place 1)) 1)
    ∷ event 1 (Commit 1 (adds (codes "n") (codes "A"))) (Committed 2 (Done ∷ []))
    ∷ event 0 Pin (Pinned 2 2)
    ∷ event 0 (Commit 2 (adds (codes "m") (codes "B"))) (Committed 3 (Done ∷ []))
    ∷ event 1 (Commit 1 b_in_a) (Conflict (Contents (at_place 0)) 2)
    ∷ event 1 (Commit 1 (adds (codes "k") (codes "B"))) (Conflict (Contents (at_place 1)) 3)
    ∷ []
