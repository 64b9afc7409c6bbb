-- A net that leads through a cell: two nets of the board are joined by the one net of a bridge.
use Rattle.std.specs.Prelude.{◌≡◌, List, [], ◌∷◌, Some, codes}
use Rattle.netlist_schema.specs.Design.{Design}
use Rattle.netlist_schema.specs.declared.cell.Direction.TheVariants.{Input, Inout}
use Rattle.flat_spec.specs.ExampleParts.{named, id_of, scalar, own_port, on_port, inst, net, leaf, body, lib, top}
use Rattle.flat_spec.specs.Flattening.{flattening}
use Rattle.flat_spec.specs.Paths.{at_path}
use Rattle.flat_spec.specs.declared.item.Item.{Item}
use Rattle.flat_spec.specs.declared.item.Item.TheVariants.{Enter, Net, Pin}

-- the net through of the bridge joins both of its ports; left is at the one, right at the other
abbrev pub board : Design
board = record {
  title = named (codes "e");
  libs =
      lib (codes "w") (
      leaf (codes "lamp") (scalar (codes "a") Input ∷ [])
      ∷ body (codes "bridge") (scalar (codes "p") Inout ∷ scalar (codes "q") Inout ∷ []) []
      (net (codes "through") (own_port 0 ∷ own_port 1 ∷ []) ∷ [])
      ∷ body (codes "socket") (scalar (codes "r") Inout ∷ []) (inst (codes "l") (id_of 0 0) [] ∷ [])
      (net (codes "feed") (own_port 0 ∷ on_port 0 0 ∷ []) ∷ [])
      ∷ body (codes "board") [] (inst (codes "u") (id_of 0 1) [] ∷ inst (codes "v") (id_of 0 2) [] ∷ [])
      (net (codes "left") (on_port 0 0 ∷ []) ∷ net (codes "right") (on_port 0 1 ∷ on_port 1 0 ∷ []) ∷ [])
      ∷ []
      )
      ∷ [];
  top = top (codes "board") (id_of 0 3) [];
  notes = [];
}

-- all its nets are connected, and the first of them is the net left of the board
abbrev pub board_items : List Item
board_items =
    Enter [] (id_of 0 3) []
    ∷ Net [] 0 (at_path [] 0)
    ∷ Net [] 1 (at_path [] 0)
    ∷ Enter (0 ∷ []) (id_of 0 1) []
    ∷ Net (0 ∷ []) 0 (at_path [] 0)
    ∷ Enter (1 ∷ []) (id_of 0 2) []
    ∷ Net (1 ∷ []) 0 (at_path [] 0)
    ∷ Enter (1 ∷ 0 ∷ []) (id_of 0 0) []
    ∷ Pin (1 ∷ 0 ∷ []) 0 0 (Some (at_path [] 0))
    ∷ []

-- the flattening of the board is these items
abbrev pub BoardIsFlattened : Type 0
BoardIsFlattened = flattening board ≡ board_items
