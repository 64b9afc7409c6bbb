-- Setting a note is an operation.
use Rattle.std.proofs.Common.{◌≡◌, ◌≢◌, ℕ, suc, ◌+◌, ◌<◌, ◌≤◌, Bool, true, false, not, arith, List, [], ◌∷◌, ◌++◌, map, length, Option, Some, None, refl, sym, ap, subst, ◌∙◌, length-append, inl, inr, ⊎_elim}
use Rattle.std.specs.Prelude.{slice_set, nat_eq, nat_le, ◌==◌, ◌&&◌, is_none}
use Rattle.std.specs.List.{All, AllByRecursion, position_from}
use Rattle.std.specs.Option.{option_map_or}
use Rattle.std.specs.Cmp.Lexicographic.{pointwise}
use Rattle.std.proofs.lemmas.Bool.{leb-false, not-false, and_parts}
use Rattle.std.proofs.lemmas.List.{length-set}
use Rattle.std.proofs.lemmas.List.Elements.{All-push, All-set}
use Rattle.netlist_schema.specs.Design.{Design}
use Rattle.netlist_schema.specs.Ident.{IsIdentifier}
use Rattle.netlist_schema.specs.Names.{AreDistinct, note_key}
use Rattle.netlist_schema.specs.Typed.{IsTypedProperty, IsTypedNote}
use Rattle.netlist_schema.specs.Types.{Note, Property, TopHead, Object}
use Rattle.netlist_schema.specs.Valid.{IsValid, IsNoteBelow}
use Rattle.flat_spec.proofs.TestLemmas.{names_same, names_refl}
use Rattle.edit_rules_spec.specs.Edit.{edited, IsChanged}
use Rattle.edit_rules_spec.specs.Find.{is_name}
use Rattle.edit_rules_spec.specs.Local.{IsLocal}
use Rattle.edit_rules_spec.specs.Notes.{notes_seen, note_place, put_notes}
use Rattle.edit_rules_spec.specs.Paths.{resolves, is_path}
use Rattle.edit_rules_spec.specs.Reading.{IsForPath}
use Rattle.edit_rules_spec.specs.Rule.{first, refuse}
use Rattle.edit_spec.proofs.DropNote.{put_last, put_finds, put_places}
use Rattle.edit_spec.specs.SetNote.{set_note, set_note_of, set_note_needs}
use Rattle.edit_spec.specs.Step.{step}
use Rattle.edit_rules_spec.specs.declared.reply.Reply.{Reply}
use Rattle.edit_rules_spec.specs.declared.reply.Reply.TheVariants.{NoTop, NoPath, TooMany}
use Rattle.edit_rules_spec.proofs.InnerValid.{AreGoodNotes, good_notes_before, notes_valid}
use Rattle.edit_rules_spec.proofs.Lists.{apart_more, missing_key, found_key, apart_of, distinct_of}
use Rattle.edit_rules_spec.proofs.Named.{leads}
use Rattle.edit_rules_spec.proofs.Reached.{iff_trans, is_path_same, path_notes_same, for_path_same}
use Rattle.edit_rules_spec.proofs.Refusals.{same_name, first_none, not_refused, is_name-refl}
use Rattle.edit_rules_spec.proofs.Same.{both_ways}
use Rattle.netlist_schema.specs.declared.ids.Object.TheVariants.{Notes}

abbrev is_note : List (List ℕ) → List ℕ → Note → Bool
is_note path key note = pointwise (pointwise nat_eq) note.path path && is_name note.property.key.id key

note_same : (path : List (List ℕ)) (key : List ℕ) (note : Note) → is_note path key note ≡ true → note_key note ≡ (path, key)
note_same path key note is =
    let both = and_parts (pointwise (pointwise nat_eq) note.path path) (is_name note.property.key.id key) is in
    let paths : note.path ≡ path = names_same note.path path both.0 in
    let keys : note.property.key.id ≡ key = same_name note.property.key.id key both.1 in
    λ i. (paths i, keys i)

note-test : (path : List (List ℕ)) (key : List ℕ) (note : Note) → note_key note ≡ (path, key) → is_note path key note ≡ true
note-test path key note same =
    let paths : note.path ≡ path = ap (λ (k : List (List ℕ) × List ℕ). k.0) same in
    let keys : note.property.key.id ≡ key = ap (λ (k : List (List ℕ) × List ℕ). k.1) same in
    let left : pointwise (pointwise nat_eq) note.path path ≡ true = subst (λ (p : List (List ℕ)). pointwise (pointwise nat_eq) note.path p ≡ true) paths (names_refl note.path) in
    let right : is_name note.property.key.id key ≡ true = subst (λ (k : List ℕ). is_name note.property.key.id k ≡ true) keys (is_name-refl note.property.key.id) in
    (λ i. left i && right i)

-- where a note is put, the keys stay different
keys_stay : (i k : ℕ) (note : Note) (notes : List Note) → position_from (is_note note.path note.property.key.id) i notes ≡ Some k → (j : ℕ) × (k ≡ i + j) × (map note_key (slice_set notes j note) ≡ map note_key notes)
keys_stay i k note [] is = cc
keys_stay i k note (n ∷ ns) is =
    found_key (is_note note.path note.property.key.id n) i k (position_from (is_note note.path note.property.key.id) (i + 1) ns) ((j : ℕ) × (k ≡ i + j) × (map note_key (slice_set (n ∷ ns) j note) ≡ map note_key (n ∷ ns)))
    (λ test here. (0, omega arith, ap (λ (key : List (List ℕ) × List ℕ). key ∷ map note_key ns) (sym (note_same note.path note.property.key.id n test))))
    (λ later. let more = keys_stay (i + 1) k note ns later in (suc more.0, omega (arith, more.1), ap (λ (ks : List (List (List ℕ) × List ℕ)). note_key n ∷ ks) more.2)) is

key_is_free : (i : ℕ) (note : Note) (notes : List Note) → position_from (is_note note.path note.property.key.id) i notes ≡ None → AllByRecursion (λ key. key ≢ note_key note) (map note_key notes)
key_is_free i note [] is = tt
key_is_free i note (n ∷ ns) is =
    let both = missing_key (is_note note.path note.property.key.id n) i (position_from (is_note note.path note.property.key.id) (i + 1) ns) is in
    (λ same. let test : is_note note.path note.property.key.id n ≡ true = note-test note.path note.property.key.id n same in let never : true ≡ false = sym test ∙ both.0 in cc, key_is_free (i + 1) note ns both.1)

keys_added : (note : Note) (notes : List Note) → map note_key (notes ++ note ∷ []) ≡ map note_key notes ++ note_key note ∷ []
keys_added note [] = refl
keys_added note (n ∷ ns) = ap (λ (ks : List (List (List ℕ) × List ℕ)). note_key n ∷ ks) (keys_added note ns)

abbrev put : Option ℕ → List Note → Note → List Note
put place notes note = option_map_or (λ i. slice_set notes i note) place (notes ++ note ∷ [])

put_differ : (place : Option ℕ) (note : Note) (notes : List Note) → position_from (is_note note.path note.property.key.id) 0 notes ≡ place → AreDistinct (map note_key notes) → AreDistinct (map note_key (put place notes note))
put_differ (Some k) note notes is distinct =
    let at = keys_stay 0 k note notes is in
    let same : k ≡ at.0 = omega (arith, at.1) in
    subst (λ (ks : List (List (List ℕ) × List ℕ)). AreDistinct ks) (sym (ap (λ (j : ℕ). map note_key (slice_set notes j note)) same ∙ at.2)) distinct
put_differ None note notes is distinct =
    subst (λ (ks : List (List (List ℕ) × List ℕ)). AreDistinct ks) (sym (keys_added note notes))
    (distinct_of (map note_key notes ++ note_key note ∷ []) (apart_more (map note_key notes) (note_key note) (key_is_free 0 note notes is) (apart_of (map note_key notes) distinct)))

put_all : (P : Note → Type 0) (place : Option ℕ) (note : Note) (notes : List Note) → P note → All P notes → All P (put place notes note)
put_all P None note notes here all = All-push P notes note all here
put_all P (Some k) note notes here all = All-set P notes k note here all

put_count : (place : Option ℕ) (note : Note) (notes : List Note) → refuse (is_none place && nat_le 1048576 (length notes)) (TooMany 1048576) ≡ None → length notes ≤ 1048576 → length (put place notes note) ≤ 1048576
put_count (Some k) note notes free before = rw length-set before
put_count None note notes free before =
    let room : length notes < 1048576 = leb-false 1048576 (length notes) (not_refused (nat_le 1048576 (length notes)) (TooMany 1048576) free) in
    let one_more : length (notes ++ note ∷ []) ≡ length notes + 1 = length-append notes (note ∷ []) in
    omega arith

has_steps : (path : List (List ℕ)) → not (length path == 0) ≡ true → 0 < length path
has_steps [] is = let never : false ≡ true = is in cc
has_steps (step ∷ steps) is = omega arith

put_valid : (d : Design) (top : Option TopHead) (path : List (List ℕ)) (property : Property) → d.top ≡ top → All IsIdentifier path → IsTypedProperty property → IsValid d → refuse (not (is_path d top path)) NoPath ≡ None → refuse (is_none (note_place path property.key.id (notes_seen top d.notes)) && nat_le 1048576 (length (notes_seen top d.notes))) (TooMany 1048576) ≡ None → IsValid (edited d (put_notes top (put (note_place path property.key.id (notes_seen top d.notes)) (notes_seen top d.notes) (record { path = path; property = property }))))
put_valid d None path property is ids typed valid leading free = valid
put_valid d (Some t) path property is ids typed valid leading free =
    let note : Note = record { path = path; property = property } in
    let place : Option ℕ = note_place path property.key.id d.notes in
    let new : List Note = put place d.notes note in
    let was : AreGoodNotes d (Some t) d.notes = subst (λ (top : Option TopHead). AreGoodNotes d top d.notes) is (good_notes_before d valid) in
    let path_is : is_path d (Some t) path ≡ true = not-false (is_path d (Some t) path) (not_refused (not (is_path d (Some t) path)) NoPath leading) in
    let both = and_parts (not (length path == 0)) (resolves d t.cell path) path_is in
    let below : IsNoteBelow d t.cell note = record { has_step = has_steps path both.0; resolves = leads d path t.cell both.1 } in
    let good : AreGoodNotes d (Some t) new = record {
      typed = put_all IsTypedNote place note d.notes (record { path = ids; property = typed }) was.typed;
      count = put_count place note d.notes free was.count;
      below = put_all (IsNoteBelow d t.cell) place note d.notes below was.below;
      need_top = tt;
      differ = put_differ place note d.notes refl was.differ;
    } in
    notes_valid d new valid (subst (λ (top : Option TopHead). AreGoodNotes d top new) (sym is) good)

pub set_note_done : (d : Design) (path : List (List ℕ)) (property : Property) → All IsIdentifier path → IsTypedProperty property → IsValid d → first (set_note_of path property d).refusals ≡ None → IsValid (edited d (set_note_of path property d).edits)
set_note_done d path property ids typed valid allowed =
    let refusal2 : Option Reply = refuse (not (is_path d d.top path)) NoPath in
    let refusal3 : Option Reply = refuse (is_none (note_place path property.key.id (notes_seen d.top d.notes)) && nat_le 1048576 (length (notes_seen d.top d.notes))) (TooMany 1048576) in
    let n1 = first_none (refuse (is_none d.top) NoTop) (refusal2 ∷ refusal3 ∷ []) allowed in
    let n2 = first_none refusal2 (refusal3 ∷ []) n1.1 in
    put_valid d d.top path property refl ids typed valid n2.0 (first_none refusal3 [] n2.1).0

-- what it changes
path_written : (d : Design) (top : Option TopHead) (path : List (List ℕ)) (notes : List Note) (o : Object) → IsChanged (put_notes top notes) o → IsForPath d top path o
path_written d None path notes o is = absurd is
path_written d (Some top) path notes o is = ⊎_elim (λ (here : o ≡ Notes). inl here) (λ (never : ⊥). absurd never) is

pub set_note_local : (path : List (List ℕ)) (property : Property) → IsLocal (set_note_of path property) (set_note_needs path) (All IsIdentifier path × IsTypedProperty property)
set_note_local path property = record {
  same = λ d e closed grown agree.
      let leads : is_path d d.top path ≡ is_path e e.top path = is_path_same d e d.top path agree ∙ ap (λ (top : Option TopHead). is_path e top path) grown.top in
      let notes : notes_seen d.top d.notes ≡ notes_seen e.top e.notes = path_notes_same d e d.top path agree ∙ ap (λ (top : Option TopHead). notes_seen top e.notes) grown.top in
      λ i. set_note (grown.top i) (leads i) (notes i) path property;
  needs_same = λ d e grown agree o. iff_trans (for_path_same d e d.top path o agree) (both_ways (λ (top : Option TopHead). IsForPath e top path o) d.top e.top grown.top);
  writes_seen = λ d o is. inl (path_written d d.top path _ o is);
  last = λ d. put_last d d.top _;
  finds = λ d. put_finds d d.top _;
  places = λ d closed. put_places d d.top _;
  valid = λ d typed valid allowed. set_note_done d path property typed.0 typed.1 valid allowed;
  refuses = λ d. inr (λ refusal. refusal);
}
