-- The notes for an occurrence, one note after another.
use Rattle.std.proofs.Common.{◌≡◌, ◌<◌, ◌≤◌, ◌+◌, ℕ, List, [], ◌∷◌, ◌++◌, map, length, get_or, take, refl, sym, ap, ◌∙◌, append-nil, Some, Bool, true, false, slice_get}
use Rattle.std.specs.Prelude.{cond, filter, nat_eq}
use Rattle.std.specs.Cmp.Lexicographic.{pointwise}
use Rattle.std.specs.List.{cons_option}
use Rattle.std.specs.Option.{option_map}
use Rattle.std.proofs.lemmas.Bool.{false_from_ne_true}
use Rattle.std.proofs.lemmas.List.{map-append, take_more, take_all}
use Rattle.std.proofs.lemmas.List.Elements.{filter-append, filter_map-append}
use Rattle.std.proofs.lemmas.Option.{slice_get-get_or}
use Rattle.netlist_schema.specs.Design.{Design}
use Rattle.netlist_schema.specs.Types.{CellId, Note}
use Rattle.netlist_schema.specs.Valid.{IsValid}
use Rattle.flat_spec.specs.Effective.{names_along, notes_for}
use Rattle.flat_spec.specs.Paths.{Reaches}
use Rattle.flat_spec.proofs.TestLemmas.{same_path, names_same, names_refl}
use Rattle.flat_items.specs.Placed.{ArePlaced, IsAdded, places_in, properties_at}
use Rattle.flat_items.specs.Ways.{IsWay}
use Rattle.flat_items.specs.declared.notes.PlacedNotes.{PlacedNotes}
use Rattle.flat_items.specs.declared.steps.Steps.{Steps}
use Rattle.flat_items.proofs.WayLemmas.{one_way}

one_passes : (names : List (List ℕ)) (note : Note) (b : Bool) → pointwise (pointwise nat_eq) note.path names ≡ b → notes_for names (note ∷ []) ≡ cond b (note.property ∷ []) []
one_passes names note b is = go b is
  where
    go : (b : Bool) → pointwise (pointwise nat_eq) note.path names ≡ b → map (λ (v : Note). v.property) (cond (pointwise (pointwise nat_eq) note.path names) (note ∷ []) []) ≡ cond b (note.property ∷ []) []
    go true is = ap (λ t. map (λ (v : Note). v.property) (cond t (note ∷ []) [])) is
    go false is = ap (λ t. map (λ (v : Note). v.property) (cond t (note ∷ []) [])) is

-- the notes so far, and one more
notes_more : (names : List (List ℕ)) (notes : List Note) (i : ℕ) (note : Note) → i < length notes → note ≡ get_or notes i note
    → notes_for names (take (i + 1) notes) ≡ notes_for names (take i notes) ++ notes_for names (note ∷ [])
notes_more names notes i note within is =
    let more : take (i + 1) notes ≡ take i notes ++ note ∷ [] = take_more notes i note within ∙ ap (λ v. take i notes ++ v ∷ []) (sym is) in
    ap (notes_for names) more
    ∙ ap (map (λ (v : Note). v.property)) (filter-append (λ (v : Note). pointwise (pointwise nat_eq) v.path names) (take i notes) (note ∷ []))
    ∙ map-append (λ (v : Note). v.property) (filter (λ (v : Note). pointwise (pointwise nat_eq) v.path names) (take i notes)) (filter (λ (v : Note). pointwise (pointwise nat_eq) v.path names) (note ∷ []))

-- the first so many notes are in the table
abbrev pub AreSoFar : Design → CellId → ℕ → PlacedNotes → Type 0
AreSoFar d top count notes = (s : Steps) (c : CellId) → Reaches d top s.steps.items c
    → properties_at d.notes (places_in notes s) ≡ notes_for (names_along d top s.steps.items) (take count d.notes)

pub placed_more : (d : Design) → IsValid d → (top : CellId) (i : ℕ) (note : Note) (way : Steps) (old new : PlacedNotes) → i < length d.notes → note ≡ get_or d.notes i note
    → IsWay d top note.path way.steps.items → IsAdded old way i new → AreSoFar d top i old → AreSoFar d top (i + 1) new
placed_more d valid top i note way old new within is leads added so_far s c at = go (pointwise nat_eq s.steps.items way.steps.items) refl
  where
    names : List (List ℕ)
    names = names_along d top s.steps.items

    property : properties_at d.notes (i ∷ []) ≡ note.property ∷ []
    property = ap (λ o. cons_option o []) (ap (option_map (λ (v : Note). v.property)) (slice_get-get_or d.notes i note within ∙ ap Some (sym is)))

    go : (b : Bool) → pointwise nat_eq s.steps.items way.steps.items ≡ b
        → properties_at d.notes (places_in new s) ≡ notes_for (names_along d top s.steps.items) (take (i + 1) d.notes)
    go true test =
        let same : s.steps.items ≡ way.steps.items = (same_path s.steps.items way.steps.items).0 test in
        let path : names_along d top s.steps.items ≡ note.path = ap (names_along d top) same ∙ leads.named in
        let passes : pointwise (pointwise nat_eq) note.path (names_along d top s.steps.items) ≡ true = ap (pointwise (pointwise nat_eq) note.path) path ∙ names_refl note.path in
        ap (properties_at d.notes) (added.here s same)
        ∙ filter_map-append (λ place. option_map (λ (v : Note). v.property) (slice_get d.notes place)) (places_in old s) (i ∷ [])
        ∙ ap (λ v. v ++ properties_at d.notes (i ∷ [])) (so_far s c at)
        ∙ ap (λ v. notes_for (names_along d top s.steps.items) (take i d.notes) ++ v) (property ∙ sym (one_passes (names_along d top s.steps.items) note true passes))
        ∙ sym (notes_more (names_along d top s.steps.items) d.notes i note within is)
    go false test =
        let apart : s.steps.items ≡ way.steps.items → ⊥ = λ e. cc (sym test ∙ (same_path s.steps.items way.steps.items).1 e) in
        let fails : pointwise (pointwise nat_eq) note.path (names_along d top s.steps.items) ≡ false =
        false_from_ne_true (pointwise (pointwise nat_eq) note.path (names_along d top s.steps.items)) (λ t.
        apart (one_way d valid top c leads.end s.steps.items way.steps.items at leads.reached (sym (names_same note.path (names_along d top s.steps.items) t) ∙ sym leads.named))) in
        ap (properties_at d.notes) (added.others s apart)
        ∙ so_far s c at
        ∙ sym (append-nil (notes_for (names_along d top s.steps.items) (take i d.notes)))
        ∙ ap (λ v. notes_for (names_along d top s.steps.items) (take i d.notes) ++ v) (sym (one_passes (names_along d top s.steps.items) note false fails))
        ∙ sym (notes_more (names_along d top s.steps.items) d.notes i note within is)

pub placed_all : (d : Design) (top : CellId) (i : ℕ) (notes : PlacedNotes) → length d.notes ≤ i → AreSoFar d top i notes → ArePlaced d top notes
placed_all d top i notes past so_far s c at = so_far s c at ∙ ap (notes_for (names_along d top s.steps.items)) (take_all i d.notes past)
