-- Runs of items.
use Rattle.std.specs.Prelude.{◌≡◌, ◌+◌, ◌*◌, ℕ, List, [], ◌∷◌, ◌++◌, Bool, true, false, Option, Some, None, Result, Ok, Err, IsOk, drop, min, nat_lt, if◌then◌else◌}
use Rattle.std.specs.List.{All, flat_map}
use Rattle.netlist_pages.specs.declared.memory.NoMemory.{NoMemory}
use Rattle.flat_spec.specs.Types.{Item}
use Rattle.flat_lines_spec.specs.Lines.{shown_items}
use Rattle.par_flat.specs.declared.cut.Cut.{Cut}

-- the first item that was left stands at the end of those that were given, or none was left
abbrev pub GivesMore : List Item → List Item → List Item → List Item → Bool → Type 0
GivesMore old before new after true = (item : Item) × (old ≡ item ∷ new) × (after ≡ before ++ item ∷ [])
GivesMore old before new after false = (old ≡ []) × (after ≡ before)

-- how many items stand before those of a worker
abbrev pub first_of : Cut → ℕ → ℕ
first_of cut worker = worker * cut.share + min worker cut.more

-- how many items a worker has, but for those that are left to the last one
abbrev pub share_of : Cut → ℕ → ℕ
share_of cut worker = if nat_lt worker cut.more then cut.share + 1 else cut.share

-- how many items a worker gives: those of the last one go to the end
abbrev pub most_of : Cut → ℕ → Option ℕ
most_of cut worker = if nat_lt (worker + 1) cut.workers then Some (share_of cut worker) else None

-- the items of a worker
abbrev pub part_of : List Item → Cut → ℕ → List Item
part_of items cut worker = shown_items (most_of cut worker) (drop (first_of cut worker) items)

-- the items of a part, none where there was no memory for it
abbrev pub items_in : Result (List Item) NoMemory → List Item
items_in (Ok part) = part
items_in (Err error) = []

-- there was memory for each part, and these are the items of all of them, one part behind the other
pub record AreJoined (parts : List (Result (List Item) NoMemory)) (all : List Item) : Type 0 where
  pub there : All IsOk parts
  pub items : all ≡ flat_map items_in parts
