-- The notes of a design, as operations see and change them.
use Rattle.std.specs.Prelude.{◌&&◌, ℕ, Bool, false, not, nat_eq, List, [], ◌∷◌, Option, Some, None, filter}
use Rattle.std.specs.List.{position_from}
use Rattle.std.specs.Cmp.Lexicographic.{pointwise}
use Rattle.netlist_schema.specs.Design.{Design}
use Rattle.netlist_schema.specs.Types.{CellId, Note, TopHead}
use Rattle.edit_rules_spec.specs.Edit.{Edit, noted}
use Rattle.edit_rules_spec.specs.Find.{is_name}
use Rattle.edit_rules_spec.specs.Paths.{goes_through}

-- the notes that are seen, none where there is no top
abbrev pub notes_seen : Option TopHead → List Note → List Note
notes_seen None notes = []
notes_seen (Some top) notes = notes

-- the notes whose paths do not go through an instance
abbrev pub goes_on : Design → Option TopHead → Option CellId → List ℕ → Note → Bool
goes_on d None cell inst note = false
goes_on d (Some top) None inst note = false
goes_on d (Some top) (Some cell) inst note = goes_through d cell inst top.cell note.path

abbrev pub other_notes : Design → Option CellId → List ℕ → List Note
other_notes d cell inst = filter (λ note. not (goes_on d d.top cell inst note)) d.notes

-- what is seen where a cell is found
abbrev pub seen_if : Option CellId → List Note → List Note
seen_if None notes = []
seen_if (Some cell) notes = notes

-- the place of the note of this path and key
abbrev pub note_place : List (List ℕ) → List ℕ → List Note → Option ℕ
note_place path key notes = position_from (λ note. pointwise (pointwise nat_eq) note.path path && is_name note.property.key.id key) 0 notes

-- the notes of a design with a top
abbrev pub put_notes : Option TopHead → List Note → List Edit
put_notes None notes = []
put_notes (Some top) notes = noted notes ∷ []
