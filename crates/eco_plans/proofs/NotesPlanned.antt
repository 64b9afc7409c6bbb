-- Notes that are planned.
use Rattle.edit_spec.specs.DropNote.{no_note_dropped}
use Rattle.std.proofs.Common.{◌≡◌, ◌⊎◌, ◌==◌, ◌<◌, ◌≤◌, ⊎_elim, ℕ, suc, arith, Bool, true, false, List, [], ◌∷◌, length, Some, None, refl}
use Rattle.std.proofs.lemmas.Bool.{le-leb, lt-leb}
use Rattle.std.proofs.lemmas.Bool.Decides.{nat_tests}
use Rattle.netlist_schema.specs.Types.{Note, Property}
use Rattle.edit_rules_spec.specs.Rule.{first}
use Rattle.edit_rules_spec.specs.Notes.{note_place}
use Rattle.edit_rules_spec.specs.declared.reply.Reply.TheVariants.{NoNote, NoPath, TooMany}
use Rattle.eco_plans.specs.Notes.{no_note_set}

empty_path : (path : List (List ℕ)) → length path ≡ 0 → path ≡ []
empty_path [] is = refl
empty_path (x ∷ xs) is = absurd (omega arith)

-- a path with a step
long : (xs : List (List ℕ)) → (suc (length xs) == 0) ≡ false
long xs = grind (arith, nat_tests)

pub no_path : (leads : Bool) (notes : List Note) (path : List (List ℕ)) (property : Property) → (length path ≡ 0) ⊎ (leads ≡ false) → first (no_note_set leads notes path property) ≡ Some NoPath
no_path leads notes [] property why = refl
no_path true notes (x ∷ xs) property why = ⊎_elim (λ (e : length (x ∷ xs) ≡ 0). absurd (omega arith)) (λ (e : true ≡ false). cc) why
no_path false notes (x ∷ xs) property why = rw (long xs) refl

pub full_notes : (leads : Bool) (notes : List Note) (path : List (List ℕ)) (property : Property) → 0 < length path → leads ≡ true → note_place path property.key.id notes ≡ None → 1048576 ≤ length notes → first (no_note_set leads notes path property) ≡ Some (TooMany 1048576)
full_notes leads notes [] property some holds none many = absurd (omega arith)
full_notes leads notes (x ∷ xs) property some holds none many =
    let full = le-leb 1048576 (length notes) many in
    rw (long xs, holds, none, full) refl

pub replaced_note : (leads : Bool) (notes : List Note) (path : List (List ℕ)) (property : Property) (place : ℕ) → 0 < length path → leads ≡ true → note_place path property.key.id notes ≡ Some place → first (no_note_set leads notes path property) ≡ None
replaced_note leads notes [] property place some holds found = absurd (omega arith)
replaced_note leads notes (x ∷ xs) property place some holds found = rw (long xs, holds, found) refl

pub added_note : (leads : Bool) (notes : List Note) (path : List (List ℕ)) (property : Property) → 0 < length path → leads ≡ true → note_place path property.key.id notes ≡ None → length notes < 1048576 → first (no_note_set leads notes path property) ≡ None
added_note leads notes [] property some holds none few = absurd (omega arith)
added_note leads notes (x ∷ xs) property some holds none few =
    let room = lt-leb 1048576 (length notes) few in
    rw (long xs, holds, none, room) refl

pub no_such_note : (notes : List Note) (path : List (List ℕ)) (key : List ℕ) → note_place path key notes ≡ None → first (no_note_dropped notes path key) ≡ Some NoNote
no_such_note notes path key none = rw none refl

pub dropped_note : (notes : List Note) (path : List (List ℕ)) (key : List ℕ) (place : ℕ) → note_place path key notes ≡ Some place → first (no_note_dropped notes path key) ≡ None
dropped_note notes path key place found = rw found refl
