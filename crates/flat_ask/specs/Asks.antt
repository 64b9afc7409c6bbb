-- What answers are made of.
use Rattle.std.specs.Prelude.{◌≡◌, ℕ, List, Option, Some, None}
use Rattle.netlist_schema.specs.Design.{Design}
use Rattle.netlist_schema.specs.Types.{CellId, Property}
use Rattle.flat_spec.specs.Effective.{base_properties}
use Rattle.flat_spec.specs.Paths.{Reaches, cell_along}
use Rattle.flat_items.specs.Stand.{top_of}
use Rattle.ask_spec.specs.declared.role.Role.{Role}
use Rattle.ask_spec.specs.declared.role.Role.TheVariants.{Any, Driver, Load}
use Rattle.net_pins.specs.declared.kept.Kept.{Kept}

-- the properties of the occurrence at the path that notes may change; none where there is no occurrence
abbrev pub IsBase : Design → List ℕ → Option (List Property) → Type 0
IsBase d path None = cell_along d (top_of d).cell path ≡ None
IsBase d path (Some base) = ((c : CellId) × Reaches d (top_of d).cell path c) × (base ≡ base_properties d (top_of d) path)

-- what is kept for a role
abbrev pub kept_for : Role → Kept → Kept → Kept → Kept
kept_for Any any drivers loads = any
kept_for Driver any drivers loads = drivers
kept_for Load any drivers loads = loads
