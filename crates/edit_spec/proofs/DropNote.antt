-- Removing a note is an operation.
use Rattle.std.proofs.Common.{◌≡◌, ℕ, arith, List, map, Option, Some, None, refl, sym, ap, subst, ◌∙◌, inl, inr, ⊎_elim}
use Rattle.std.specs.Prelude.{remove}
use Rattle.std.specs.Option.{option_map_or}
use Rattle.netlist_schema.specs.Design.{Design}
use Rattle.netlist_schema.specs.Names.{AreDistinct, note_key}
use Rattle.netlist_schema.specs.Typed.{IsTypedNote}
use Rattle.netlist_schema.specs.Types.{Note, TopHead, Object}
use Rattle.netlist_schema.specs.Valid.{IsValid, IsNoteBelow}
use Rattle.edit_rules_spec.specs.Edit.{edited, IsChanged, AllGoLast, AllPlaceOld, AllFindOld}
use Rattle.edit_rules_spec.specs.Local.{IsLocal}
use Rattle.edit_rules_spec.specs.Notes.{notes_seen, note_place, put_notes}
use Rattle.edit_rules_spec.specs.Reading.{IsNotesBelow}
use Rattle.edit_rules_spec.specs.Rule.{first}
use Rattle.edit_spec.specs.DropNote.{drop_note, drop_note_of, drop_note_needs}
use Rattle.edit_rules_spec.proofs.InnerValid.{AreGoodNotes, good_notes_before, notes_valid}
use Rattle.edit_rules_spec.proofs.Lists.{All-drop, length_drop, map_drop, apart_drop, apart_of, distinct_of}
use Rattle.edit_rules_spec.proofs.Reached.{top_notes_same}
use Rattle.edit_rules_spec.proofs.Same.{both_ways}
use Rattle.netlist_schema.specs.declared.ids.Object.TheVariants.{Notes}

-- a note is dropped
drop_valid : (d : Design) (top : Option TopHead) (place : Option ℕ) → d.top ≡ top → IsValid d → IsValid (edited d (put_notes top (option_map_or (remove (notes_seen top d.notes)) place (notes_seen top d.notes))))
drop_valid d None place is valid = valid
drop_valid d (Some t) None is valid = notes_valid d d.notes valid (good_notes_before d valid)
drop_valid d (Some t) (Some k) is valid =
    let was : AreGoodNotes d (Some t) d.notes = subst (λ (top : Option TopHead). AreGoodNotes d top d.notes) is (good_notes_before d valid) in
    let less = length_drop k d.notes in
    let before = was.count in
    let good : AreGoodNotes d (Some t) (remove d.notes k) = record {
      typed = All-drop IsTypedNote k d.notes was.typed;
      count = omega arith;
      below = All-drop (IsNoteBelow d t.cell) k d.notes was.below;
      need_top = tt;
      differ = subst (λ (ks : List (List (List ℕ) × List ℕ)). AreDistinct ks) (sym (map_drop note_key k d.notes)) (distinct_of (remove (map note_key d.notes) k) (apart_drop k (map note_key d.notes) (apart_of (map note_key d.notes) was.differ)));
    } in
    notes_valid d (remove d.notes k) valid (subst (λ (top : Option TopHead). AreGoodNotes d top (remove d.notes k)) (sym is) good)

pub drop_note_done : (d : Design) (path : List (List ℕ)) (key : List ℕ) → IsValid d → first (drop_note_of path key d).refusals ≡ None → IsValid (edited d (drop_note_of path key d).edits)
drop_note_done d path key valid allowed =
    drop_valid d d.top (note_place path key (notes_seen d.top d.notes)) refl valid

-- what it changes
put_written : (top : Option TopHead) (notes : List Note) (o : Object) → IsChanged (put_notes top notes) o → IsNotesBelow top o
put_written None notes o is = absurd is
put_written (Some top) notes o is = ⊎_elim (λ (here : o ≡ Notes). here) (λ (never : ⊥). absurd never) is

pub put_last : (d : Design) (top : Option TopHead) (notes : List Note) → AllGoLast d (put_notes top notes)
put_last d None notes = tt
put_last d (Some top) notes = (tt, tt)

pub put_finds : (d : Design) (top : Option TopHead) (notes : List Note) → AllFindOld d (put_notes top notes)
put_finds d None notes = tt
put_finds d (Some top) notes = (tt, tt)

pub put_places : (d : Design) (top : Option TopHead) (notes : List Note) → AllPlaceOld d (put_notes top notes)
put_places d None notes = tt
put_places d (Some top) notes = (tt, tt)

pub drop_note_local : (path : List (List ℕ)) (key : List ℕ) → IsLocal (drop_note_of path key) drop_note_needs (Unit {0})
drop_note_local path key = record {
  same = λ d e closed grown agree.
      let notes : notes_seen d.top d.notes ≡ notes_seen e.top e.notes = top_notes_same d e d.top agree ∙ ap (λ (top : Option TopHead). notes_seen top e.notes) grown.top in
      λ i. drop_note (grown.top i) (notes i) path key;
  needs_same = λ d e grown agree o. both_ways (λ (top : Option TopHead). IsNotesBelow top o) d.top e.top grown.top;
  writes_seen = λ d o is. inl (put_written d.top _ o is);
  last = λ d. put_last d d.top _;
  finds = λ d. put_finds d d.top _;
  places = λ d closed. put_places d d.top _;
  valid = λ d typed valid allowed. drop_note_done d path key valid allowed;
  refuses = λ d. inr (λ refusal. refusal);
}
