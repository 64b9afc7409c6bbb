-- Objects with their places in a list.
use Rattle.std.specs.Prelude.{◌≡◌, ◌↔◌, ℕ, List, Some, slice_get}
use Rattle.std.specs.BTreeMap.{BTreeMap, get}
use Rattle.netlist_schema.specs.Order.{object_cmp}
use Rattle.netlist_schema.specs.declared.ids.Object.{Object}

-- an object has a place exactly where it stands there in the list, so that each stands once
abbrev pub IsPlaced : List Object → BTreeMap Object ℕ → Type 0
IsPlaced list places = (o : Object) (place : ℕ) → (get object_cmp places o ≡ Some place) ↔ (slice_get list place ≡ Some o)
