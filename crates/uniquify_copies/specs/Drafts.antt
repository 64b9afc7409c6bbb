-- Spots that are put on a list one after another.
use Rattle.std.specs.Prelude.{◌≡◌, ◌≤◌, ℕ, Bool, true, false, cond, nat_le, List, [], ◌∷◌, ◌++◌, Some, length, map, slice_get}
use Rattle.std.specs.List.{flat_map, list_any}
use Rattle.netlist_schema.specs.Design.{Design}
use Rattle.netlist_schema.specs.Types.{CellId}
use Rattle.netlist_schema.specs.declared.limits.TheConstants.{MOST_CELLS}
use Rattle.flat_spec.specs.Occurrences.{Occurrence}
use Rattle.uniquify_spec.specs.Blocks.{root_of}
use Rattle.uniquify_spec.specs.Copies.{Copy, copies_after, copy_after}
use Rattle.uniquify_copies.specs.Known.{AreKnown}
use Rattle.uniquify_copies.specs.Seats.{copies_of, kept_at, occurrence_of, seats}
use Rattle.uniquify_copies.specs.declared.draft.CopyDraft.{CopyDraft}
use Rattle.uniquify_copies.specs.declared.spot.Spot.{Spot}

-- an occurrence, and whether it gets a copy
pub record Marked : Type 0 where
  pub at : Occurrence
  pub copied : Bool

abbrev pub occurrences_of : List Marked → List Occurrence
occurrences_of done = map (λ m. m.at) done

abbrev pub copied_of : List Marked → List Occurrence
copied_of done = flat_map (λ m. cond m.copied (m.at ∷ []) []) done

abbrev pub kept_of : List Marked → List Occurrence
kept_of done = flat_map (λ m. cond m.copied [] (m.at ∷ [])) done

-- the copies that these occurrences get
abbrev pub made_for : Design → List Marked → List Copy
made_for d done = copies_after d [] (copied_of done)

-- a copy would get a place that a library does not have
abbrev pub has_no_room : List Copy → Bool
has_no_room copies = list_any (λ copy. nat_le MOST_CELLS copy.id.slot) copies

-- each spot names the top or one before it
abbrev pub NamesEarlier : List Spot → Type 0
NamesEarlier spots = (before after : List Spot) (spot : Spot) → spots ≡ before ++ spot ∷ after → spot.above ≤ length before

-- a list of spots has these occurrences, with the copies that they get
pub record IsDraft (d : Design) (top : CellId) (done : List Marked) (draft : CopyDraft) : Type 0 where
  pub known : AreKnown d (made_for d done) draft.namer
  pub occurrences : map occurrence_of (seats top draft.spots.items) ≡ root_of top ∷ occurrences_of done
  pub copies : copies_of (seats top draft.spots.items) ≡ made_for d done
  pub kept : flat_map kept_at (seats top draft.spots.items) ≡ root_of top ∷ kept_of done
  pub above : NamesEarlier draft.spots.items
  pub room : has_no_room (made_for d done) ≡ false

-- the occurrence at a place of another one
abbrev pub placed_in : Occurrence → ℕ → CellId → Occurrence
placed_in up place cell = record { path = up.path ++ place ∷ []; cell = cell }

-- one occurrence more, that keeps its cell or gets a copy
abbrev pub IsMoreDraft : Design → CellId → List Marked → Occurrence → Bool → CopyDraft → Type 0
IsMoreDraft d top done at copied draft = IsDraft d top (done ++ record { at = at; copied = copied } ∷ []) draft

-- it got a copy, or there is no room for that
abbrev pub IsCopied : Design → CellId → List Marked → Occurrence → CopyDraft → Bool → Type 0
IsCopied d top done at draft true = IsMoreDraft d top done at true draft
IsCopied d top done at draft false = MOST_CELLS ≤ (copy_after d (made_for d done) at).id.slot

-- the occurrence with a number, of the top and those so far
abbrev pub IsNumbered : CellId → List Marked → ℕ → Occurrence → Type 0
IsNumbered top done number at = slice_get (root_of top ∷ occurrences_of done) number ≡ Some at
