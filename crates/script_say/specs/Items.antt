-- One item of a walk.
use Rattle.std.specs.Prelude.{◌≡◌, ◌<◌, ℕ, List, [], ◌∷◌, ◌++◌, length, Bool, true, false}
use Rattle.netlist_schema.specs.Design.{Design}
use Rattle.flat_spec.specs.Types.{Item}
use Rattle.flat_lines_spec.specs.Lines.{item_line}

-- the next item was said, or none is left
abbrev pub SaysNext : Design → List Item → List Item → List ℕ → List ℕ → Bool → Type 0
SaysNext d old new before text true = (item : Item) × (old ≡ item ∷ new) × (text ≡ before ++ item_line d item)
SaysNext d old new before text false = (old ≡ []) × (new ≡ []) × (text ≡ before)

-- an item is left, or none is
abbrev pub IsLeft : List Item → Bool → Type 0
IsLeft left true = 0 < length left
IsLeft left false = left ≡ []
