-- What an ungroup has read.
use Rattle.std.specs.Prelude.{◌≡◌, ◌⊎◌, List, ℕ, Option, Some, None, map}
use Rattle.netlist_schema.specs.Design.{Design}
use Rattle.netlist_schema.specs.Types.{CellId, Note, Object, TopHead}
use Rattle.edit_rules_spec.specs.Objects.{contents_object, face_object}
use Rattle.ungroup_op.specs.Crossing.{crossings}
use Rattle.ungroup_op.specs.declared.notes.ReadNotes.{ReadNotes}

-- no note has a step that is the instance where there is no top
abbrev pub places_of : Design → CellId → List ℕ → Option TopHead → List Note → List (Option ℕ)
places_of d cell inst None notes = map (λ _. None) notes
places_of d cell inst (Some top) notes = crossings d cell inst top.cell notes

-- the notes, and for each the place of the step of its path that is the instance, if there is one
pub record AreRead (d : Design) (cell : CellId) (inst : List ℕ) (read : ReadNotes) : Type 0 where
  pub all : read.notes ≡ d.notes
  pub crossed : read.places.items ≡ places_of d cell inst d.top d.notes

-- both objects of a cell, where there is one
abbrev pub IsForCell : Option CellId → Object → Type 0
IsForCell None o = ⊥
IsForCell (Some cell) o = (o ≡ face_object cell) ⊎ (o ≡ contents_object cell)
