-- What a walk has still to give, from where it stands.
use Rattle.std.specs.Prelude.{◌≡◌, ℕ, List, [], ◌∷◌, ◌++◌, Option, Some, None, false, drop}
use Rattle.std.specs.List.{enumerate_from, flat_map}
use Rattle.netlist_schema.specs.Design.{Design}
use Rattle.netlist_schema.specs.Hierarchy.{insts_at}
use Rattle.netlist_schema.specs.Types.{CellId}
use Rattle.flat_spec.specs.Below.{items_under}
use Rattle.flat_spec.specs.Types.{Item}
use Rattle.occ_walk.specs.Walk.{Rest}
use Rattle.flat_items.specs.Left.{is_over, own_left}
use Rattle.flat_items.specs.Stand.{Stand, here_of, top_of}
use Rattle.flat_items.specs.declared.place.Frame.{Frame}

-- the items at and below the instances of the cell at the path, from one instance on
abbrev pub below_from : Design → List ℕ → CellId → ℕ → List Item
below_from d path c i = flat_map (λ p. items_under d (top_of d) (path ++ p.0 ∷ []) p.1.of) (enumerate_from i (drop i (insts_at d c)))

-- along the steps from the first path, the lowest frame first: the items below the instances that are not passed
abbrev pub left_above : Design → List ℕ → List ℕ → List Frame → List Item
left_above d start (step ∷ steps) (f ∷ fs) = left_above d (start ++ step ∷ []) steps fs ++ below_from d start f.cell f.next
left_above d start [] [] = []
left_above d start [] (f ∷ fs) = []
left_above d start (step ∷ steps) [] = []

-- the own items of the occurrence, those of what is below it, and those of what is below the occurrences above it
abbrev pub left : Design → Stand → List Item
left d s = own_left d (here_of s) s.stage ++ (below_from d s.path s.here.cell s.here.next ++ left_above d [] s.path s.above)

-- nothing is left, or this is the first item, and the others are left
abbrev pub IsFirst : List Item → List Item → Option Item → Type 0
IsFirst old new None = (old ≡ []) × (new ≡ [])
IsFirst old new (Some item) = old ≡ item ∷ new

-- a walk that stands there, as its callers see it
abbrev pub rest_of : Design → Stand → Rest
rest_of d s = record { design = d; left = left d s; over = is_over s.stage }

-- the first item was passed over, where the occurrence had still something to give
abbrev pub HasPassed : Design → Stand → Stand → Type 0
HasPassed d old new = is_over old.stage ≡ false → left d new ≡ drop 1 (left d old)
