-- What a list of entries stands for.
use Rattle.std.specs.Prelude.{◌≡◌, ◌⊎◌, ℕ, ◌+◌, ◌<◌, ◌≤◌, List, [], ◌∷◌, map, length, IsTrue, Result, Ok, Err, slice_index}
use Rattle.std.specs.Arc.{arc_value}
use Rattle.std.specs.Ordering.{nat_cmp}
use Rattle.std.specs.FinMap.{put, is_sorted}
use Rattle.ver_table.specs.declared.entries.Entry.{Entry}

-- the slot and its item
abbrev pub pair_of : {T : Type 0} → Entry T → ℕ × T
pair_of entry = (entry.slot, arc_value entry.item)

-- the slots and their items
abbrev pub pairs_of : {T : Type 0} → List (Entry T) → List (ℕ × T)
pairs_of entries = map (λ entry. (entry.slot, arc_value entry.item)) entries

-- the slots rise from pair to pair
abbrev pub IsInOrder : {T : Type 0} → List (ℕ × T) → Type 0
IsInOrder pairs = IsTrue (is_sorted nat_cmp pairs)

-- the pairs in order with each of these changes made: its item in the place of the one at its slot, or else added
abbrev pub with_all : {T : Type 0} → List (ℕ × T) → List (ℕ × T) → List (ℕ × T)
with_all pairs [] = pairs
with_all pairs (change ∷ changes) = with_all (put nat_cmp change.0 change.1 pairs) changes

-- the slot of the pair at a place
abbrev pub slot_at : {T : Type 0} → List (ℕ × T) → ℕ → ℕ
slot_at pairs at = slice_index (map (λ pair. pair.0) pairs) at

-- the pair at this place has the slot, and those before it have lower ones
pub record StandsAt {T : Type 0} (pairs : List (ℕ × T)) (slot at : ℕ) : Type 0 where
  pub in_range : at < length pairs
  pub same : slot_at pairs at ≡ slot
  pub lower : (k : ℕ) → k < at → slot_at pairs k < slot

-- the pairs before this place have lower slots, and the one at it, if there is one, has a higher slot
pub record BelongsAt {T : Type 0} (pairs : List (ℕ × T)) (slot at : ℕ) : Type 0 where
  pub in_range : at ≤ length pairs
  pub higher : at < length pairs → slot < slot_at pairs at
  pub lower : (k : ℕ) → k < at → slot_at pairs k < slot

-- where the slot stands, or else where it belongs
abbrev pub IsPlace : {T : Type 0} → List (ℕ × T) → ℕ → Result ℕ ℕ → Type 0
IsPlace pairs slot (Ok at) = StandsAt pairs slot at
IsPlace pairs slot (Err at) = BelongsAt pairs slot at

-- the pairs from one place up to another give way to a new one at the slot: the pair that has the slot, or none
abbrev pub GivesWay : {T : Type 0} → List (ℕ × T) → ℕ → ℕ → ℕ → Type 0
GivesWay pairs slot from to = (StandsAt pairs slot from × (to ≡ from + 1)) ⊎ (BelongsAt pairs slot from × (to ≡ from))
