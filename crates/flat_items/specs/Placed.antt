-- The notes for an occurrence.
use Rattle.std.specs.Prelude.{◌≡◌, ◌++◌, ◌∷◌, [], ℕ, List, slice_get}
use Rattle.std.specs.BTreeMap.{get}
use Rattle.std.specs.Cmp.Lexicographic.{slice_cmp}
use Rattle.std.specs.List.{filter_map}
use Rattle.std.specs.Option.{option_map, option_map_or}
use Rattle.std.specs.Ordering.{nat_cmp}
use Rattle.std.specs.declared.cmp.Ordering.{Ordering}
use Rattle.netlist_schema.specs.Design.{Design}
use Rattle.netlist_schema.specs.Types.{CellId, Note, Property}
use Rattle.flat_spec.specs.Effective.{names_along, notes_for}
use Rattle.flat_spec.specs.Paths.{Reaches}
use Rattle.flat_items.specs.declared.notes.PlacedNotes.{PlacedNotes}
use Rattle.flat_items.specs.declared.steps.Steps.{Steps}

-- the order of paths by their steps
abbrev pub steps_cmp : Steps → Steps → Ordering
steps_cmp a b = slice_cmp nat_cmp a.steps.items b.steps.items

-- the places of the notes that are kept for these steps
abbrev pub places_in : PlacedNotes → Steps → List ℕ
places_in notes s = option_map_or (λ places. places.items) (get steps_cmp notes.table s) []

-- one place more at these steps, behind the others, and at no other steps
pub record IsAdded (old : PlacedNotes) (s : Steps) (place : ℕ) (new : PlacedNotes) : Type 0 where
  pub here : (q : Steps) → q.steps.items ≡ s.steps.items → places_in new q ≡ places_in old q ++ place ∷ []
  pub others : (q : Steps) → (q.steps.items ≡ s.steps.items → ⊥) → places_in new q ≡ places_in old q

-- the properties of the notes at these places
abbrev pub properties_at : List Note → List ℕ → List Property
properties_at notes places = filter_map (λ place. option_map (λ note. note.property) (slice_get notes place)) places

-- for each occurrence below the top the notes for it are kept, in order
abbrev pub ArePlaced : Design → CellId → PlacedNotes → Type 0
ArePlaced d top notes = (s : Steps) (c : CellId) → Reaches d top s.steps.items c
    → properties_at d.notes (places_in notes s) ≡ notes_for (names_along d top s.steps.items) d.notes
