-- Setting and removing notes.
use Rattle.std.proofs.Common.{◌≡◌, ◌⊎◌, ◌↔◌, inl, inr, ⊎_elim, ℕ, Bool, List, [], ◌∷◌, Option, Some, sym, ap, subst, ◌∙◌}
use Rattle.std.specs.Prelude.{MatchResult, Result, Ok, Err}
use Rattle.std.specs.Option.{option_map}
use Rattle.netlist_schema.specs.Design.{Design}
use Rattle.netlist_schema.specs.Types.{CellId, Note, Object, Property, TopHead}
use Rattle.netlist_schema.specs.Valid.{IsValid}
use Rattle.netlist_schema.specs.declared.ids.Object.TheVariants.{Notes}
use Rattle.edit_rules_spec.specs.Edit.{noted}
use Rattle.edit_rules_spec.specs.Reading.{IsForPath, IsNotesBelow, IsReached}
use Rattle.edit_spec.specs.Needs.{Needs}
use Rattle.edit_rules_spec.specs.Paths.{resolves}
use Rattle.edit_rules_spec.specs.Rule.{Outcome, first, ruled, unless}
use Rattle.edit_spec.specs.DropNote.{drop_note, note_dropped, no_note_dropped}
use Rattle.edit_rules_spec.specs.Paths.{is_path}
use Rattle.edit_rules_spec.specs.Notes.{notes_seen}
use Rattle.edit_spec.specs.Rows.{outcome}
use Rattle.edit_spec.specs.SetNote.{set_note, note_set}
use Rattle.edit_spec.specs.Typed.{IsTypedOp}
use Rattle.edit_spec.specs.declared.ops.Op.{Op}
use Rattle.edit_spec.specs.declared.ops.Op.TheVariants.{DropNote, SetNote}
use Rattle.edit_rules_spec.specs.declared.reply.Reply.{Reply}
use Rattle.edit_rules_spec.specs.declared.reply.Reply.TheVariants.{Done}
use Rattle.edit_cells.specs.State.{State, HasRead, HasReadSome}
use Rattle.eco_reads.specs.Done.{IsDone, IsDoneOrFails}
use Rattle.eco_reads.proofs.NoteReads.{some_top}
use Rattle.eco_plans.specs.Notes.{no_note_set}
use Rattle.eco_reads.specs.Plan.{AreNotesPlanned, AreNotesPut, CanNotesBePut}
use Rattle.eco_reads.proofs.Reading.{done_made, done_read, made_valid, read_some, read_then}

-- ---- the refusals, one by one

-- ---- what the operations come to

pub set_note_comes : (d : Design) (top : TopHead) (path : List (List ℕ)) (property : Property) → d.top ≡ Some top → outcome d (SetNote path property) ≡ unless (first (no_note_set (resolves d top.cell path) d.notes path property)) Done (noted (note_set d.notes path property) ∷ [])
set_note_comes d top path property is = λ i. ruled (set_note (is i) (is_path d (is i) path) (notes_seen (is i) d.notes) path property)

pub drop_note_comes : (d : Design) (top : TopHead) (path : List (List ℕ)) (key : List ℕ) → d.top ≡ Some top → outcome d (DropNote path key) ≡ unless (first (no_note_dropped d.notes path key)) Done (noted (note_dropped d.notes path key) ∷ [])
drop_note_comes d top path key is = λ i. ruled (drop_note (is i) (notes_seen (is i) d.notes) path key)

-- notes that were planned can be put in place, and then the operation is done
pub notes_can : (s u : State) (op : Op) (P : Object → Type 0) (refusal : Option Reply) (new : List Note) (made : Result (List Note) Reply) → IsTypedOp op → IsValid s.design → HasRead s u P → outcome s.design op ≡ unless refusal Done (noted new ∷ []) → AreNotesPlanned refusal new made → CanNotesBePut u.design made
notes_can s u op P refusal new (Ok made) typed valid read comes (none, same) = record {
  can = tt;
  valid = made_valid s u op Done (noted made ∷ []) P typed valid read
      (comes ∙ ap (λ (r : Option Reply). unless r Done (noted new ∷ [])) none ∙ ap (λ (ns : List Note). let out : Outcome = record { reply = Done; edits = noted ns ∷ [] } in out) (sym same));
}
notes_can s u op P refusal new (Err reply) typed valid read comes planned = tt

notes_put : (s u v : State) (op : Op) (P : Object → Type 0) (refusal : Option Reply) (new : List Note) (made : Result (List Note) Reply) (reply : Reply) → HasRead s u P → ((o : Object) → P o ↔ Needs s.design op o) → outcome s.design op ≡ unless refusal Done (noted new ∷ []) → AreNotesPlanned refusal new made → AreNotesPut u v made reply → IsDone s v op reply
notes_put s u v op P refusal new (Ok made) reply read needs comes (none, same) (is, put) =
    done_made s u v op reply (noted made ∷ []) P read needs
    (comes ∙ ap (λ (r : Option Reply). unless r Done (noted new ∷ [])) none ∙ (λ i. let out : Outcome = record { reply = sym is i; edits = noted (sym same i) ∷ [] } in out)) put
notes_put s u v op P refusal new (Err refused) reply read needs comes planned (is, put) =
    subst (λ (t : State). IsDone s t op reply) (sym put)
    (done_read s u op reply P read needs (comes ∙ ap (λ (r : Option Reply). unless r Done (noted new ∷ [])) planned ∙ ap (λ (r : Reply). let out : Outcome = record { reply = r; edits = [] } in out) (sym is)))

pub notes_done : {E : Type 0} (s u v : State) (op : Op) (P : Object → Type 0) (refusal : Option Reply) (new : List Note) (made : Result (List Note) Reply) (result : Result Reply E) → HasRead s u P → ((o : Object) → P o ↔ Needs s.design op o) → outcome s.design op ≡ unless refusal Done (noted new ∷ []) → AreNotesPlanned refusal new made → MatchResult result (AreNotesPut u v made) (λ _. v ≡ u) → IsDoneOrFails result s v op
notes_done s u v op P refusal new made (Ok reply) read needs comes planned put = notes_put s u v op P refusal new made reply read needs comes planned put
notes_done s u v op P refusal new made (Err err) read needs comes planned put = subst (λ (t : State). HasReadSome s t) (sym put) (read_some s u P read)

-- ---- setting a note

set_read : (s t u : State) (head : TopHead) (path : List (List ℕ)) (property : Property) → s.design.top ≡ Some head → HasRead s t (IsReached s.design head.cell path) → HasRead t u (λ o. o ≡ Notes) → HasRead s u (Needs s.design (SetNote path property))
set_read s t u head path property is first second =
    read_then s t u (IsReached s.design head.cell path) (λ o. o ≡ Notes) (Needs s.design (SetNote path property)) first second
    (λ o. subst (λ (top : Option TopHead). (IsReached s.design head.cell path o ⊎ (o ≡ Notes)) ↔ IsForPath s.design top path o) (sym is) (
      λ x. ⊎_elim (λ (r : IsReached s.design head.cell path o). inr r) (λ (n : o ≡ Notes). inl n) x,
      λ x. ⊎_elim (λ (n : o ≡ Notes). inr n) (λ (r : IsReached s.design head.cell path o). inl r) x,
    ))

-- what is planned on the notes that were read, in the words of the first design
set_planned : (s t : State) (head : TopHead) (top : CellId) (path : List (List ℕ)) (property : Property) (leads : Bool) (notes : List Note) (made : Result (List Note) Reply) → head.cell ≡ top → t.design ≡ s.design → leads ≡ resolves s.design top path → notes ≡ t.design.notes → AreNotesPlanned (first (no_note_set leads notes path property)) (note_set notes path property) made → AreNotesPlanned (first (no_note_set (resolves s.design head.cell path) s.design.notes path property)) (note_set s.design.notes path property) made
set_planned s t head top path property leads notes made cell same is notes_are planned =
    let now : leads ≡ resolves s.design head.cell path = is ∙ ap (λ (c : CellId). resolves s.design c path) (sym cell) in
    let there : notes ≡ s.design.notes = notes_are ∙ ap (λ (d : Design). d.notes) same in
    subst (λ (ns : List Note). AreNotesPlanned (first (no_note_set (resolves s.design head.cell path) ns path property)) (note_set ns path property) made) there
    (subst (λ (b : Bool). AreNotesPlanned (first (no_note_set b notes path property)) (note_set notes path property) made) now planned)

pub set_note_can : (s t u : State) (top : CellId) (path : List (List ℕ)) (property : Property) (leads : Bool) (notes : List Note) (made : Result (List Note) Reply) → IsTypedOp (SetNote path property) → IsValid s.design → Some top ≡ option_map (λ head. head.cell) s.design.top → HasRead s t (IsReached s.design top path) → leads ≡ resolves s.design top path → HasRead t u (λ o. o ≡ Notes) → notes ≡ t.design.notes → AreNotesPlanned (first (no_note_set leads notes path property)) (note_set notes path property) made → CanNotesBePut u.design made
set_note_can s t u top path property leads notes made typed valid is first_read leads_is second notes_are planned =
    let known = some_top s.design.top top is in
    notes_can s u (SetNote path property) (Needs s.design (SetNote path property)) (first (no_note_set (resolves s.design known.0.cell path) s.design.notes path property)) (note_set s.design.notes path property) made typed valid
    (set_read s t u known.0 path property known.1 (subst (λ (c : CellId). HasRead s t (IsReached s.design c path)) (sym known.2) first_read) second)
    (set_note_comes s.design known.0 path property known.1)
    (set_planned s t known.0 top path property leads notes made known.2 first_read.design leads_is notes_are planned)

pub set_note_done : {E : Type 0} (s t u v : State) (top : CellId) (path : List (List ℕ)) (property : Property) (leads : Bool) (notes : List Note) (made : Result (List Note) Reply) (result : Result Reply E) → Some top ≡ option_map (λ head. head.cell) s.design.top → HasRead s t (IsReached s.design top path) → leads ≡ resolves s.design top path → HasRead t u (λ o. o ≡ Notes) → notes ≡ t.design.notes → AreNotesPlanned (first (no_note_set leads notes path property)) (note_set notes path property) made → MatchResult result (AreNotesPut u v made) (λ _. v ≡ u) → IsDoneOrFails result s v (SetNote path property)
set_note_done s t u v top path property leads notes made result is first_read leads_is second notes_are planned put =
    let known = some_top s.design.top top is in
    notes_done s u v (SetNote path property) (Needs s.design (SetNote path property)) (first (no_note_set (resolves s.design known.0.cell path) s.design.notes path property)) (note_set s.design.notes path property) made result
    (set_read s t u known.0 path property known.1 (subst (λ (c : CellId). HasRead s t (IsReached s.design c path)) (sym known.2) first_read) second)
    (λ o. (λ x. x, λ x. x))
    (set_note_comes s.design known.0 path property known.1)
    (set_planned s t known.0 top path property leads notes made known.2 first_read.design leads_is notes_are planned)
    put

-- ---- removing a note

drop_needs : (d : Design) (head : TopHead) (path : List (List ℕ)) (key : List ℕ) (o : Object) → d.top ≡ Some head → (o ≡ Notes) ↔ Needs d (DropNote path key) o
drop_needs d head path key o is = subst (λ (top : Option TopHead). (o ≡ Notes) ↔ IsNotesBelow top o) (sym is) (λ x. x, λ x. x)

pub drop_note_can : (s u : State) (top : CellId) (path : List (List ℕ)) (key : List ℕ) (notes : List Note) (made : Result (List Note) Reply) → IsValid s.design → Some top ≡ option_map (λ head. head.cell) s.design.top → HasRead s u (λ o. o ≡ Notes) → notes ≡ s.design.notes → AreNotesPlanned (first (no_note_dropped notes path key)) (note_dropped notes path key) made → CanNotesBePut u.design made
drop_note_can s u top path key notes made valid is read notes_are planned =
    let known = some_top s.design.top top is in
    notes_can s u (DropNote path key) (λ o. o ≡ Notes) (first (no_note_dropped s.design.notes path key)) (note_dropped s.design.notes path key) made tt valid read
    (drop_note_comes s.design known.0 path key known.1)
    (subst (λ (ns : List Note). AreNotesPlanned (first (no_note_dropped ns path key)) (note_dropped ns path key) made) notes_are planned)

pub drop_note_done : {E : Type 0} (s u v : State) (top : CellId) (path : List (List ℕ)) (key : List ℕ) (notes : List Note) (made : Result (List Note) Reply) (result : Result Reply E) → Some top ≡ option_map (λ head. head.cell) s.design.top → HasRead s u (λ o. o ≡ Notes) → notes ≡ s.design.notes → AreNotesPlanned (first (no_note_dropped notes path key)) (note_dropped notes path key) made → MatchResult result (AreNotesPut u v made) (λ _. v ≡ u) → IsDoneOrFails result s v (DropNote path key)
drop_note_done s u v top path key notes made result is read notes_are planned put =
    let known = some_top s.design.top top is in
    notes_done s u v (DropNote path key) (λ o. o ≡ Notes) (first (no_note_dropped s.design.notes path key)) (note_dropped s.design.notes path key) made result read
    (λ o. drop_needs s.design known.0 path key o known.1)
    (drop_note_comes s.design known.0 path key known.1)
    (subst (λ (ns : List Note). AreNotesPlanned (first (no_note_dropped ns path key)) (note_dropped ns path key) made) notes_are planned)
    put
