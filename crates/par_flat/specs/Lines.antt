-- Lines of items.
use Rattle.std.specs.Prelude.{◌≡◌, ◌<◌, ◌≤◌, ◌*◌, ℕ, List, [], ◌∷◌, ◌++◌, Bool, true, false, length, take}
use Rattle.netlist_schema.specs.Design.{Design}
use Rattle.flat_spec.specs.Types.{Item}
use Rattle.flat_lines_spec.specs.Lines.{item_line, item_lines}
use Rattle.par_flat.specs.declared.desks.Most.{Most}

-- the line of the first item that was left stands at the end of the text, or none was left, and none is
abbrev pub GivesLine : Design → List Item → List ℕ → List Item → List ℕ → Bool → Type 0
GivesLine d old before new after true = (item : Item) × (old ≡ item ∷ new) × (after ≡ before ++ item_line d item)
GivesLine d old before new after false = (old ≡ []) × (after ≡ before) × (new ≡ [])

-- the text is the lines of so many items, no more than are wanted. The lines of fewer are shorter than a text may be, so nothing is
-- made behind a text that is as long; and only behind such a text, or at the end of the items, are there fewer than are wanted
pub record IsPart (d : Design) (items : List Item) (most : Most) (count : ℕ) (text : List ℕ) : Type 0 where
  pub few : count ≤ most.items
  pub lines : text ≡ item_lines d (take count items)
  pub bounded : (fewer : ℕ) → fewer < count → length (item_lines d (take fewer items)) < most.bytes
  pub full : count < most.items → count < length items → most.bytes ≤ length text

-- so many items were written by so many workers, fewer than they might only at the end of the items or behind a text that is long enough
pub record IsRound (d : Design) (items : List Item) (most : Most) (workers made : ℕ) : Type 0 where
  pub few : made ≤ workers * most.items
  pub full : made < workers * most.items → made < length items → most.bytes ≤ length (item_lines d (take made items))
