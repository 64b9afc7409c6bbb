-- What names lead to.
use Rattle.std.specs.Prelude.{ℕ, List, [], ◌∷◌, ◌==◌, Bool, Option, Some, option_and_then, slice_get, if◌then◌else◌}
use Rattle.std.specs.List.{slice_split}
use Rattle.std.specs.Option.{option_map, option_map_or}
use Rattle.netlist_schema.specs.Design.{Design, cell_at}
use Rattle.netlist_schema.specs.Hierarchy.{insts_at}
use Rattle.netlist_schema.specs.Types.{CellId, Port}
use Rattle.edit_rules_spec.specs.Find.{inst_place}

-- the ports of the cell with this id, none where there is no such cell
abbrev pub ports_at : Design → CellId → List Port
ports_at d id = option_map_or (λ body. body.ports) (cell_at d id) []

-- `/`
abbrev pub is_slash : ℕ → Bool
is_slash b = b == 47

-- behind the first `/`: no name where nothing is left
abbrev pub names_behind : List ℕ → List (List ℕ)
names_behind [] = []
names_behind (b ∷ text) = slice_split is_slash (b ∷ text)

-- The names in the text of a path: what stands between its slashes. One may stand before them all, and alone it has no name.
abbrev pub names_in : List ℕ → List (List ℕ)
names_in [] = slice_split is_slash []
names_in (b ∷ text) = if is_slash b then names_behind text else slice_split is_slash (b ∷ text)

-- the places of the instances with these names, the first in the cell, each other one in the cell of the one before; none where there is no
-- instance with a name
abbrev pub places_along : Design → CellId → List (List ℕ) → Option (List ℕ)
places_along d c [] = Some []
places_along d c (name ∷ names) =
    option_and_then (λ place. option_and_then (λ inst. option_map (λ path. place ∷ path) (places_along d inst.of names)) (slice_get (insts_at d c) place))
    (inst_place name (insts_at d c))

-- the path from the top that has this text; none where it is no path, or leads nowhere
abbrev pub path_named : Design → List ℕ → Option (List ℕ)
path_named d text = option_and_then (λ top. places_along d top.cell (names_in text)) d.top
