-- Removing a note.
use Rattle.std.specs.Prelude.{ℕ, List, [], ◌∷◌, Option, is_none, remove}
use Rattle.std.specs.Option.{option_map_or}
use Rattle.netlist_schema.specs.Design.{Design}
use Rattle.netlist_schema.specs.Types.{Note, Object, TopHead}
use Rattle.edit_rules_spec.specs.Notes.{note_place, notes_seen, put_notes}
use Rattle.edit_rules_spec.specs.Reading.{IsNotesBelow}
use Rattle.edit_rules_spec.specs.Rule.{Rule, refuse}
use Rattle.edit_rules_spec.specs.declared.reply.Reply.{Reply}
use Rattle.edit_rules_spec.specs.declared.reply.Reply.TheVariants.{Done, NoNote, NoTop}

-- the notes without that of this path and key
abbrev pub note_dropped : List Note → List (List ℕ) → List ℕ → List Note
note_dropped notes path key = option_map_or (remove notes) (note_place path key notes) notes

-- the refusal where there is none
abbrev pub no_note_dropped : List Note → List (List ℕ) → List ℕ → List (Option Reply)
no_note_dropped notes path key = refuse (is_none (note_place path key notes)) NoNote ∷ []

abbrev pub drop_note : Option TopHead → List Note → List (List ℕ) → List ℕ → Rule
drop_note top notes path key = record {
  refusals = refuse (is_none top) NoTop ∷ no_note_dropped notes path key;
  reply = Done;
  edits = put_notes top (note_dropped notes path key);
}

abbrev pub drop_note_of : List (List ℕ) → List ℕ → Design → Rule
drop_note_of path key d = drop_note d.top (notes_seen d.top d.notes) path key

-- it needs the notes, where there is a top
abbrev pub drop_note_needs : Design → Object → Type 0
drop_note_needs d o = IsNotesBelow d.top o
