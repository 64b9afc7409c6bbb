-- What stands at and below an occurrence.
use Rattle.std.specs.Prelude.{◌≡◌, ℕ, List, [], ◌∷◌, ◌++◌, map, Some}
use Rattle.std.specs.List.{enumerate_from, flat_map}
use Rattle.netlist_schema.specs.Design.{Design}
use Rattle.netlist_schema.specs.Hierarchy.{insts_at, NoCellIsBelowItself}
use Rattle.netlist_schema.specs.Types.{CellId, TopHead}
use Rattle.flat_spec.specs.Flattening.{flattening, items_of}
use Rattle.flat_spec.specs.Occurrences.{Occurrence, occurrences}
use Rattle.flat_spec.specs.declared.item.Item.{Item}

-- the same occurrence, where its tree stands at that path
abbrev pub under_path : List ℕ → Occurrence → Occurrence
under_path path o = record { path = path ++ o.path; cell = o.cell }

-- the items of the occurrence at the path, and of all below it
abbrev pub items_under : Design → TopHead → List ℕ → CellId → List Item
items_under d top path c = flat_map (items_of d top) (map (under_path path) (occurrences d c))

-- first the occurrence's own items, then for each instance in order those under it
abbrev pub ItemsGoDown : Type 0
ItemsGoDown = (d : Design) (top : TopHead) (path : List ℕ) (c : CellId) → NoCellIsBelowItself d
    → items_under d top path c
    ≡ items_of d top (record { path = path; cell = c }) ++ flat_map (λ p. items_under d top (path ++ p.0 ∷ []) p.1.of) (enumerate_from 0 (insts_at d c))

-- the flattening is what stands under the top
abbrev pub FlatteningIsUnderTop : Type 0
FlatteningIsUnderTop = (d : Design) (top : TopHead) → d.top ≡ Some top → flattening d ≡ items_under d top [] top.cell
