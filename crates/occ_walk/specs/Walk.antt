-- A walk as its callers see it.
use Rattle.std.specs.Prelude.{◌≡◌, List, [], ◌∷◌, Option, Some, None, Result, Ok, Err, Bool, true, false, not, ◌&&◌, drop}
use Rattle.netlist_schema.specs.Design.{Design}
use Rattle.netlist_pages.specs.declared.memory.NoMemory.{NoMemory}
use Rattle.flat_spec.specs.Types.{Item}
use Rattle.flat_spec.specs.declared.item.Item.TheVariants.{Enter, Net, Pin}
use Rattle.flat_items.specs.Lent.{item_of}
use Rattle.flat_items.specs.Texts.{IsFirstItem}
use Rattle.flat_items.specs.declared.lent.ItemRef.{ItemRef}
use Rattle.flat_items.specs.declared.texts.ItemText.{ItemText}

-- the design, the items that are left, and whether all items of the occurrence at which the walk stands were given
pub record Rest : Type 0 where
  pub design : Design
  pub left : List Item
  pub over : Bool

-- the occurrence has still something to give, or nothing is left at all
abbrev pub IsSettled : Rest → Bool → Type 0
IsSettled w true = w.over ≡ false
IsSettled w false = w.left ≡ []

-- the occurrence has nothing to give, or this is the first of the items that are left
abbrev pub IsLent : Rest → Option ItemRef → Type 0
IsLent w None = w.over ≡ true
IsLent w (Some item) = (w.over ≡ false) × (w.left ≡ item_of item ∷ drop 1 w.left)

-- the same, with the texts of its paths
abbrev pub IsTextLent : Rest → Option ItemText → Type 0
IsTextLent w None = w.over ≡ true
IsTextLent w (Some text) = IsFirstItem w.design w.over w.left text

-- a net or a pin: not the entry of an occurrence, with which the occurrence's items begin
abbrev pub is_inside : Item → Bool
is_inside (Enter path cell properties) = false
is_inside (Net path net first) = true
is_inside (Pin path port bit first) = true

-- the items begin with one of the occurrence that was entered before them
abbrev pub begins_inside : List Item → Bool
begins_inside [] = false
begins_inside (item ∷ items) = is_inside item

-- the occurrence has still something to give, and behind the next item another one of it follows
abbrev pub another_follows : Rest → Bool
another_follows w = not w.over && begins_inside (drop 1 w.left)

-- the next of a walk as an iterator: none, where nothing is left; the first item, where the others are left; or want of memory, where all
-- is as before
abbrev pub GivesNext : Rest → Option (Result Item NoMemory) → Rest → Type 0
GivesNext old None new = (old.left ≡ []) × (new.left ≡ []) × (new.design ≡ old.design)
GivesNext old (Some (Ok item)) new = (old.left ≡ item ∷ new.left) × (new.design ≡ old.design)
GivesNext old (Some (Err error)) new = (new.left ≡ old.left) × (new.design ≡ old.design)
