-- The part of a flattening that stands at and below a path.
use Rattle.std.specs.Prelude.{ℕ, List, [], ◌∷◌, Bool, true, false, ◌&&◌, nat_eq, filter}
use Rattle.netlist_schema.specs.Design.{Design}
use Rattle.flat_spec.specs.Flattening.{flattening}
use Rattle.flat_spec.specs.Types.{Item}
use Rattle.flat_spec.specs.declared.item.Item.TheVariants.{Enter, Net, Pin}

-- a path begins with another
abbrev pub begins_with : List ℕ → List ℕ → Bool
begins_with [] path = true
begins_with (i ∷ front) [] = false
begins_with (i ∷ front) (j ∷ path) = nat_eq i j && begins_with front path

-- the path of the occurrence to which the item belongs
abbrev pub path_of : Item → List ℕ
path_of (Enter path cell properties) = path
path_of (Net path net first) = path
path_of (Pin path port bit first) = path

-- the items of the flattening whose path begins with that one, in their order
abbrev pub items_below : Design → List ℕ → List Item
items_below d path = filter (λ item. begins_with path (path_of item)) (flattening d)
