-- What an ungroup keeps that is done.
use Rattle.std.specs.Prelude.{◌≡◌, ◌↔◌, ℕ, List, Some, None, filter_map, option_and_then}
use Rattle.netlist_schema.specs.Design.{Design}
use Rattle.netlist_schema.specs.Types.{CellId, TopHead}
use Rattle.netlist_schema.specs.Valid.{IsValid}
use Rattle.flat_spec.specs.Connection.{Connected}
use Rattle.flat_spec.specs.Effective.{effective, names_along}
use Rattle.flat_spec.specs.Occurrences.{occurrences}
use Rattle.flat_spec.specs.Paths.{Bit, IsNet, Reaches}
use Rattle.flat_spec.specs.Pins.{net_at_pin}
use Rattle.flat_spec.specs.Representatives.{representative}
use Rattle.flat_spec.specs.Types.{NetAt}
use Rattle.edit_rules_spec.specs.Find.{cell_named, inst_place}
use Rattle.edit_rules_spec.specs.declared.reply.CellName.{CellName}
use Rattle.edit_rules_spec.specs.declared.reply.Reply.TheVariants.{Done}
use Rattle.ungroup_spec.specs.KeepsNets.{EndsAtIt, IsUngroup, bearing_at}
use Rattle.ungroup_spec.specs.Maps.{Dissolving, image, occurrence_after, path_after}
use Rattle.ungroup_spec.specs.MovedNotes.{moved_notes, moved_path}
use Rattle.edit_spec.specs.Step.{step}
use Rattle.edit_spec.specs.declared.ops.Op.TheVariants.{Ungroup}

-- Of the paths from a root that lead somewhere those that end at the instance have no image; the others have one each, and all paths of
-- the later design are images.
pub record ArePathsMapped (d e : Design) (q : Dissolving) (root : CellId) : Type 0 where
  pub differ : (a b moved : List ℕ) → path_after d q root a ≡ Some moved → path_after d q root b ≡ Some moved → a ≡ b
  pub onto : (cell : CellId) (moved : List ℕ) → Reaches e root moved cell → (path : List ℕ) × Reaches d root path cell × (path_after d q root path ≡ Some moved)
  pub gone : (cell : CellId) (path : List ℕ) → Reaches d root path cell → (path_after d q root path ≡ None) ↔ EndsAtIt d q root path

-- The occurrences below a root are those that have an image, in their order and of the same cells; the instance at the end of a path
-- keeps its cell, designator and properties, and the identifiers along it are those before, with two steps as one where it goes through
-- the dissolved instance.
pub record AreOccurrencesKept (d e : Design) (q : Dissolving) (root : CellId) : Type 0 where
  pub carried : occurrences e root ≡ filter_map (occurrence_after d q root) (occurrences d root)
  pub insts : (path moved : List ℕ) → path_after d q root path ≡ Some moved → bearing_at e root moved ≡ bearing_at d root path
  pub names : (path moved : List ℕ) → path_after d q root path ≡ Some moved → moved_path d q.cell q.site root (names_along d root path) ≡ Some (names_along e root moved)

-- Below a root nets are connected exactly where their images are, the representative of an image is the image of the representative, and
-- a pin has a net exactly where it had one: that net's image.
pub record AreNetsKept (d e : Design) (q : Dissolving) (root : CellId) : Type 0 where
  pub connected : (x y u v : NetAt) → IsNet d root x → IsNet d root y → image d q root x ≡ Some u → image d q root y ≡ Some v → Connected d root x y ↔ Connected e root u v
  pub firsts : (x : NetAt) → IsNet d root x → (u : NetAt) × (image d q root x ≡ Some u) × (image d q root (representative d root x) ≡ Some (representative e root u))
  pub pins : (path moved : List ℕ) (b : Bit) → path_after d q root path ≡ Some moved → net_at_pin e root moved b ≡ option_and_then (image d q root) (net_at_pin d root path b)

-- what the later design keeps of the earlier one, below every root; below the top the notes and the effective properties too
pub record IsKept (d e : Design) (q : Dissolving) : Type 0 where
  pub valid : IsValid e
  pub paths : (root : CellId) → ArePathsMapped d e q root
  pub instances : (root : CellId) → AreOccurrencesKept d e q root
  pub nets : (root : CellId) → AreNetsKept d e q root
  pub notes : (top : TopHead) → d.top ≡ Some top → e.notes ≡ moved_notes d q.cell q.site top.cell
  pub properties : (top : TopHead) (path moved : List ℕ) → d.top ≡ Some top → path_after d q top.cell path ≡ Some moved → effective e top moved ≡ effective d top path

-- an ungroup of the instance with this name dissolves an instance: the one with that name in the cell of that name
pub record HasUngrouped (d e : Design) (cell : CellName) (name : List ℕ) : Type 0 where
  pub what : Dissolving
  pub in_cell : cell_named d cell ≡ Some what.cell
  pub at_place : inst_place name what.site.around.insts ≡ Some what.site.place
  pub stands : IsUngroup d what
  pub keeps : IsKept d e what

-- of a valid design an ungroup that replies that it is done keeps what it is to keep
abbrev pub UngroupKeeps : Type 0
UngroupKeeps = (d : Design) (cell : CellName) (name : List ℕ) → IsValid d → (step d (Ungroup cell name)).reply ≡ Done
    → HasUngrouped d (step d (Ungroup cell name)).design cell name
