-- A tower of cells: each has two instances of the one below it, so at height 60 there are 2 ^ 60 leaves.
use Rattle.std.specs.Prelude.{◌≡◌, ◌+◌, ℕ, zero, suc, List, [], ◌∷◌, ◌++◌, codes, decimal, map}
use Rattle.std.specs.List.{range_with_len}
use Rattle.netlist_schema.specs.Design.{Design}
use Rattle.netlist_schema.specs.Types.{CellBody}
use Rattle.flat_spec.specs.ExampleParts.{named, id_of, inst, leaf, body, lib, top}
use Rattle.flat_spec.specs.Flattening.{flattening}
use Rattle.flat_spec.specs.declared.item.Item.{Item}
use Rattle.flat_spec.specs.declared.item.Item.TheVariants.{Enter}

-- the storey at a height is a leaf on the ground, and above it a cell with two instances of the storey below
abbrev pub storey : ℕ → CellBody
storey zero = leaf (codes "c0") []
storey (suc height) =
    body (codes "c" ++ decimal (suc height)) [] (inst (codes "a") (id_of 0 height) [] ∷ inst (codes "b") (id_of 0 height) [] ∷ []) []

-- the storeys up to this height, the highest of which is the top
abbrev pub tower : ℕ → Design
tower height = record {
  title = named (codes "e");
  libs = lib (codes "w") (map storey (range_with_len 0 (height + 1))) ∷ [];
  top = top (codes "tower") (id_of 0 height) [];
  notes = [];
}

-- the first way down
abbrev pub tower_items : List Item
tower_items =
    Enter [] (id_of 0 60) []
    ∷ Enter (0 ∷ []) (id_of 0 59) []
    ∷ Enter (0 ∷ 0 ∷ []) (id_of 0 58) []
    ∷ Enter (0 ∷ 0 ∷ 0 ∷ []) (id_of 0 57) []
    ∷ Enter (0 ∷ 0 ∷ 0 ∷ 0 ∷ []) (id_of 0 56) []
    ∷ Enter (0 ∷ 0 ∷ 0 ∷ 0 ∷ 0 ∷ []) (id_of 0 55) []
    ∷ Enter (0 ∷ 0 ∷ 0 ∷ 0 ∷ 0 ∷ 0 ∷ []) (id_of 0 54) []
    ∷ Enter (0 ∷ 0 ∷ 0 ∷ 0 ∷ 0 ∷ 0 ∷ 0 ∷ []) (id_of 0 53) []
    ∷ Enter (0 ∷ 0 ∷ 0 ∷ 0 ∷ 0 ∷ 0 ∷ 0 ∷ 0 ∷ []) (id_of 0 52) []
    ∷ Enter (0 ∷ 0 ∷ 0 ∷ 0 ∷ 0 ∷ 0 ∷ 0 ∷ 0 ∷ 0 ∷ []) (id_of 0 51) []
    ∷ []

-- the flattening of the tower of height 60 begins with these items
abbrev pub TowerBegins : Type 0
TowerBegins = (others : List Item) × (flattening (tower 60) ≡ tower_items ++ others)
