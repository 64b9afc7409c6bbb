use Rattle.std.proofs.Common.{◌≡◌, ◌++◌, drop}
use Rattle.annot_view.specs.Lent.{lent}
use Rattle.flat_items.specs.Placed.{properties_at}
use Rattle.flat_items.proofs.noted.noted.Given as goal

-- what was found so far, and the properties at the places that are left
abbrev pub invariant-loop-place : goal.invariant-loop-place
invariant-loop-place l = lent l.found.items ++ properties_at l.notes (drop l.place-index l.places) ≡ properties_at l.notes l.places
