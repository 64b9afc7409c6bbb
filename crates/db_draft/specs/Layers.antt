-- What the fields of a layer stand for.
use Rattle.std.specs.Prelude.{◌≡◌, ◌+◌, ◌<◌, ℕ, List, [], Some, None, cond, nat_eq, map, option_map, slice_set}
use Rattle.std.specs.Arc.{arc_value}
use Rattle.std.specs.BTreeMap.{get}
use Rattle.std.specs.Ordering.{nat_cmp}
use Rattle.netlist_schema.specs.Names.{cell_names}
use Rattle.netlist_schema.specs.Types.{CellBody}
use Rattle.db_draft.specs.Laid.{Over}
use Rattle.db_draft.specs.declared.layer.Layer.{Layer}

-- the layer of these fields
abbrev pub over_of : Layer → Over
over_of layer = record {
  changed = λ slot. option_map arc_value (get nat_cmp layer.changed slot);
  added = map arc_value layer.cells.items;
}

-- the names are those of the cells added
abbrev pub IsNamed : Layer → Type 0
IsNamed layer = layer.names ≡ cell_names (map arc_value layer.cells.items)

-- the layer changes and adds nothing
pub record IsEmpty (layer : Layer) : Type 0 where
  pub changed : (slot : ℕ) → (over_of layer).changed slot ≡ None
  pub added : (over_of layer).added ≡ []
  pub named : IsNamed layer

-- nothing is changed
pub record IsSameLayer (old new : Layer) : Type 0 where
  pub changed : (slot : ℕ) → (over_of new).changed slot ≡ (over_of old).changed slot
  pub added : (over_of new).added ≡ (over_of old).added
  pub names : new.names ≡ old.names

-- a cell of the library has another body
pub record HasChanged (old new : Layer) (slot : ℕ) (body : CellBody) : Type 0 where
  pub changed : (at : ℕ) → (over_of new).changed at ≡ cond (nat_eq slot at) (Some body) ((over_of old).changed at)
  pub added : (over_of new).added ≡ (over_of old).added
  pub names : new.names ≡ old.names

-- these are the cells added, and their names
pub record HasAdded (old new : Layer) (added : List CellBody) (names : List (List ℕ)) : Type 0 where
  pub changed : (slot : ℕ) → (over_of new).changed slot ≡ (over_of old).changed slot
  pub added_are : (over_of new).added ≡ added
  pub names_are : new.names ≡ names

-- a cell of a library of this many cells, or one added, has another body
pub record IsPut (old new : Layer) (count slot : ℕ) (body : CellBody) : Type 0 where
  pub before : slot < count → HasChanged old new slot body
  pub behind : (place : ℕ) → slot ≡ count + place → HasAdded old new (slice_set (over_of old).added place body) old.names

-- the layer has no other body and no cell
pub record IsBlank (layer : Layer) : Type 0 where
  pub changed : layer.changed.entries ≡ []
  pub added : layer.cells.items ≡ []

-- the other bodies, with their places
abbrev pub changes_of : Layer → List (ℕ × CellBody)
changes_of layer = map (λ e. (e.0, arc_value e.1)) layer.changed.entries
