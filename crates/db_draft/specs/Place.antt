-- A change that is tried in place.
use Rattle.std.specs.Prelude.{◌≡◌, ◌+◌, ◌<◌, ℕ, List, Option, Some, cond, nat_eq, option_map, slice_get, slice_set}
use Rattle.std.specs.Arc.{arc_value}
use Rattle.std.specs.BTreeMap.{BTreeMap, get}
use Rattle.std.specs.Ordering.{nat_cmp}
use Rattle.std.specs.declared.alloc.Global.{Global}
use Rattle.std.specs.declared.sync.Arc.{Arc}
use Rattle.edit_cells.specs.Patch.{body_after}
use Rattle.edit_cells.specs.declared.change.CellChange.{CellChange}
use Rattle.netlist_schema.specs.Types.{CellBody, CellId}
use Rattle.edit_rules_spec.specs.Edit.{with_changed_cell}
use Rattle.db_draft.specs.Drafts.{Drafted}
use Rattle.db_draft.specs.Layers.{over_of, IsPut, IsSameLayer}
use Rattle.db_draft.specs.declared.layer.Layer.{Layer}
use Rattle.db_draft.specs.declared.place.Tried.{Tried}
use Rattle.db_draft.specs.declared.place.Tried.TheVariants.{Made, Refused, NotHere}

-- a body was changed, or nothing was done, and the change came back where it was not tried
abbrev pub IsTried : CellBody → CellBody → CellChange → Tried → Type 0
IsTried old new change Made = new ≡ body_after change old
IsTried old new change Refused = new ≡ old
IsTried old new change (NotHere back) = (new ≡ old) × (back ≡ change)

-- the same of the body at a place of a list
abbrev pub IsTriedAt : List CellBody → List CellBody → ℕ → CellChange → Tried → Type 0
IsTriedAt old new place change Made = (body : CellBody) × (slice_get old place ≡ Some body) × (new ≡ slice_set old place (body_after change body))
IsTriedAt old new place change Refused = new ≡ old
IsTriedAt old new place change (NotHere back) = (new ≡ old) × (back ≡ change)

-- the body of a slot
abbrev pub body_at : BTreeMap ℕ (Arc CellBody Global) → ℕ → Option CellBody
body_at bodies slot = option_map arc_value (get nat_cmp bodies slot)

-- the same of the body of a slot
abbrev pub IsTriedSlot : BTreeMap ℕ (Arc CellBody Global) → BTreeMap ℕ (Arc CellBody Global) → ℕ → CellChange → Tried → Type 0
IsTriedSlot old new slot change Made = (body : CellBody) × (body_at old slot ≡ Some body) × ((at : ℕ) → body_at new at ≡ cond (nat_eq slot at) (Some (body_after change body)) (body_at old at))
IsTriedSlot old new slot change Refused = (at : ℕ) → body_at new at ≡ body_at old at
IsTriedSlot old new slot change (NotHere back) = ((at : ℕ) → body_at new at ≡ body_at old at) × (back ≡ change)

-- the layer has this body for a cell of a library of so many cells
pub record HasBody (layer : Layer) (count slot : ℕ) (body : CellBody) : Type 0 where
  pub before : slot < count → (over_of layer).changed slot ≡ Some body
  pub behind : (place : ℕ) → slot ≡ count + place → slice_get (over_of layer).added place ≡ Some body

-- the same of a cell of a layer
abbrev pub IsTriedIn : Layer → Layer → ℕ → ℕ → CellChange → Tried → Type 0
IsTriedIn old new count slot change Made = (body : CellBody) × HasBody old count slot body × IsPut old new count slot (body_after change body)
IsTriedIn old new count slot change Refused = IsSameLayer old new
IsTriedIn old new count slot change (NotHere back) = IsSameLayer old new × (back ≡ change)

-- the same of a cell of a draft
abbrev pub IsTriedCell : Drafted → Drafted → CellId → CellChange → Tried → Type 0
IsTriedCell old new id change Made = new ≡ record old { design = with_changed_cell old.design id (body_after change) }
IsTriedCell old new id change Refused = new ≡ old
IsTriedCell old new id change (NotHere back) = (new ≡ old) × (back ≡ change)
