use Rattle.std.proofs.Common.{◌≡◌, ℕ, None, Option, map, take}
use Rattle.ungroup_op.proofs.notes.no_places.Given as goal

abbrev pub invariant-loop-note : goal.invariant-loop-note
invariant-loop-note l = l.places.items ≡ map (λ _. let none : Option ℕ = None in none) (take l._note-index l._note-items)
