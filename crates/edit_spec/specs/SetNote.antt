-- Setting a note.
use Rattle.std.specs.Prelude.{◌&&◌, ◌++◌, ℕ, Bool, not, nat_le, List, [], ◌∷◌, Option, length, is_none, slice_set}
use Rattle.std.specs.Option.{option_map_or}
use Rattle.netlist_schema.specs.Design.{Design}
use Rattle.netlist_schema.specs.Types.{Note, Object, Property, TopHead}
use Rattle.netlist_schema.specs.declared.limits.TheConstants.{MOST_NOTES}
use Rattle.edit_rules_spec.specs.Notes.{note_place, notes_seen, put_notes}
use Rattle.edit_rules_spec.specs.Paths.{is_path}
use Rattle.edit_rules_spec.specs.Reading.{IsForPath}
use Rattle.edit_rules_spec.specs.Rule.{Rule, refuse}
use Rattle.edit_rules_spec.specs.declared.reply.Reply.{Reply}
use Rattle.edit_rules_spec.specs.declared.reply.Reply.TheVariants.{Done, NoPath, NoTop, TooMany}

-- the note of equal path and key is replaced in its place, else it is added
abbrev pub note_set : List Note → List (List ℕ) → Property → List Note
note_set notes path property =
    let note : Note = record { path = path; property = property } in
    option_map_or (λ place. slice_set notes place note) (note_place path property.key.id notes) (notes ++ note ∷ [])

-- the refusals to set it, where its path leads or not
abbrev pub no_set_note : Bool → List Note → List (List ℕ) → Property → List (Option Reply)
no_set_note leads notes path property =
    refuse (not leads) NoPath ∷ refuse (is_none (note_place path property.key.id notes) && nat_le MOST_NOTES (length notes)) (TooMany MOST_NOTES) ∷ []

abbrev pub set_note : Option TopHead → Bool → List Note → List (List ℕ) → Property → Rule
set_note top leads notes path property = record {
  refusals = refuse (is_none top) NoTop ∷ no_set_note leads notes path property;
  reply = Done;
  edits = put_notes top (note_set notes path property);
}

abbrev pub set_note_of : List (List ℕ) → Property → Design → Rule
set_note_of path property d = set_note d.top (is_path d d.top path) (notes_seen d.top d.notes) path property

-- it needs the notes, and the contents of the cells that its path reaches
abbrev pub set_note_needs : List (List ℕ) → Design → Object → Type 0
set_note_needs path d o = IsForPath d d.top path o
