-- What an ungroup keeps: occurrences, and the net of every pin.
use Rattle.std.specs.Prelude.{◌≡◌, ◌≤◌, ◌↔◌, ℕ, List, Option, Some, None, filter_map, option_and_then, option_map, [], ◌∷◌, ◌++◌}
use Rattle.std.specs.List.{last_or}
use Rattle.netlist_schema.specs.Design.{Design}
use Rattle.netlist_schema.specs.Types.{CellId, Inst, Property, TopHead}
use Rattle.netlist_schema.specs.Valid.{IsValid}
use Rattle.netlist_schema.specs.declared.limits.TheConstants.{MOST_ENDS, MOST_INSTS, MOST_NETS}
use Rattle.flat_spec.specs.Connection.{Connected}
use Rattle.flat_spec.specs.Effective.{effective, insts_along, names_along}
use Rattle.flat_spec.specs.Occurrences.{occurrences}
use Rattle.flat_spec.specs.Paths.{Bit, IsNet, Reaches}
use Rattle.flat_spec.specs.Pins.{net_at_pin}
use Rattle.flat_spec.specs.Representatives.{representative}
use Rattle.flat_spec.specs.Types.{NetAt}
use Rattle.ungroup_spec.specs.Maps.{Dissolving, path_after, image, occurrence_after}
use Rattle.ungroup_spec.specs.MovedNotes.{moved_path, moved_notes}
use Rattle.edit_rules_spec.specs.Edit.{edited}
use Rattle.edit_rules_spec.specs.Find.{cell_named, inst_place}
use Rattle.edit_rules_spec.specs.Rule.{first}
use Rattle.edit_rules_spec.specs.declared.reply.CellName.{CellName}
use Rattle.ungroup_spec.specs.Ungroup.{ungroup, IsSite, ungrouped, count_insts, count_nets, count_ends}

-- in a valid design an instance is dissolved, and its cell has room for it
pub record IsUngroup (d : Design) (q : Dissolving) : Type 0 where
  pub valid : IsValid d
  pub stands : IsSite d q.cell q.site
  pub insts_fit : count_insts q.site ≤ MOST_INSTS
  pub nets_fit : count_nets q.site ≤ MOST_NETS
  pub ends_fit : count_ends q.site ≤ MOST_ENDS

abbrev pub after : Design → Dissolving → Design
after d q = ungrouped d q.cell q.site

-- an operation that nothing refuses dissolves, in a valid design, the instance with that name, and leaves the design afterwards
pub record IsDoneUngroup (d : Design) (cell : CellName) (name : List ℕ) : Type 0 where
  pub what : Dissolving
  pub in_cell : cell_named d cell ≡ Some what.cell
  pub at_place : inst_place name what.site.around.insts ≡ Some what.site.place
  pub is : IsUngroup d what
  pub leaves : edited d (ungroup d cell name).edits ≡ after d what

abbrev pub DoneIsUngroup : Type 0
DoneIsUngroup = (d : Design) (cell : CellName) (name : List ℕ) → IsValid d → first (ungroup d cell name).refusals ≡ None → IsDoneUngroup d cell name

-- the design afterwards is valid
abbrev pub ValidStays : Type 0
ValidStays = (d : Design) (q : Dissolving) → IsUngroup d q → IsValid (after d q)

-- the occurrences afterwards are those before that have an image, each once, in the same order, and of the same cells
abbrev pub OccurrencesAreCarried : Type 0
OccurrencesAreCarried = (d : Design) (q : Dissolving) (root : CellId) → IsUngroup d q
    → occurrences (after d q) root ≡ filter_map (occurrence_after d q root) (occurrences d root)

-- no two paths have one image
abbrev pub ImagesDiffer : Type 0
ImagesDiffer = (d : Design) (q : Dissolving) (root : CellId) (a b moved : List ℕ) → IsUngroup d q
    → path_after d q root a ≡ Some moved → path_after d q root b ≡ Some moved → a ≡ b

-- each path afterwards is the image of one that leads to the same cell
abbrev pub EachIsAnImage : Type 0
EachIsAnImage = (d : Design) (q : Dissolving) (root cell : CellId) (moved : List ℕ) → IsUngroup d q → Reaches (after d q) root moved cell
    → (path : List ℕ) × Reaches d root path cell × (path_after d q root path ≡ Some moved)

-- the path ends at the dissolved instance
abbrev pub EndsAtIt : Design → Dissolving → CellId → List ℕ → Type 0
EndsAtIt d q root path = (up : List ℕ) × Reaches d root up q.cell × (path ≡ up ++ q.site.place ∷ [])

-- of the paths that lead somewhere, those that end at the instance have no image, and all others have one
abbrev pub TheRestIsGone : Type 0
TheRestIsGone = (d : Design) (q : Dissolving) (root cell : CellId) (path : List ℕ) → IsUngroup d q → Reaches d root path cell
    → (path_after d q root path ≡ None) ↔ EndsAtIt d q root path

-- what an instance has besides its name
pub record Bearing : Type 0 where
  pub cell : CellId
  pub designator : Option (List ℕ)
  pub properties : List Property

abbrev pub bearing_of : Inst → Bearing
bearing_of inst = record { cell = inst.of; designator = inst.designator; properties = inst.properties }

-- what the instance at the end of a path has
abbrev pub bearing_at : Design → CellId → List ℕ → Option Bearing
bearing_at d root path = option_map bearing_of (last_or None (insts_along d root path))

-- the instance at the end of a path keeps cell, designator and properties
abbrev pub InstancesAreKept : Type 0
InstancesAreKept = (d : Design) (q : Dissolving) (root : CellId) (path moved : List ℕ) → IsUngroup d q
    → path_after d q root path ≡ Some moved → bearing_at (after d q) root moved ≡ bearing_at d root path

-- the identifiers along a path are those before, with two steps as one where it goes through the instance
abbrev pub NamesAreMoved : Type 0
NamesAreMoved = (d : Design) (q : Dissolving) (root : CellId) (path moved : List ℕ) → IsUngroup d q
    → path_after d q root path ≡ Some moved
    → moved_path d q.cell q.site root (names_along d root path) ≡ Some (names_along (after d q) root moved)

-- the notes afterwards are those before whose paths do not end at the instance, at their moved paths
abbrev pub NotesAreMoved : Type 0
NotesAreMoved = (d : Design) (q : Dissolving) (top : TopHead) → IsUngroup d q → d.top ≡ Some top
    → (after d q).notes ≡ moved_notes d q.cell q.site top.cell

-- below the top an occurrence keeps its effective properties
abbrev pub EffectiveStays : Type 0
EffectiveStays = (d : Design) (q : Dissolving) (top : TopHead) (path moved : List ℕ) → IsUngroup d q → d.top ≡ Some top
    → path_after d q top.cell path ≡ Some moved → effective (after d q) top moved ≡ effective d top path

-- two nets are connected exactly where their images are
abbrev pub ImagesAreConnected : Type 0
ImagesAreConnected = (d : Design) (q : Dissolving) (root : CellId) (x y u v : NetAt) → IsUngroup d q
    → IsNet d root x → IsNet d root y → image d q root x ≡ Some u → image d q root y ≡ Some v
    → Connected d root x y ↔ Connected (after d q) root u v

-- each net has an image, and the representative of the image is the image of the representative
abbrev pub RepresentativesAreCarried : Type 0
RepresentativesAreCarried = (d : Design) (q : Dissolving) (root : CellId) (x : NetAt) → IsUngroup d q → IsNet d root x
    → (u : NetAt) × (image d q root x ≡ Some u) × (image d q root (representative d root x) ≡ Some (representative (after d q) root u))

-- a pin has a net afterwards exactly where it had one, and it is that net's image
abbrev pub PinsAreCarried : Type 0
PinsAreCarried = (d : Design) (q : Dissolving) (root : CellId) (path moved : List ℕ) (b : Bit) → IsUngroup d q
    → path_after d q root path ≡ Some moved
    → net_at_pin (after d q) root moved b ≡ option_and_then (image d q root) (net_at_pin d root path b)
