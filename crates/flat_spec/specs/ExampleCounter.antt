-- A small counter: two libraries, an array port with a bit that no net joins, and properties of the design and of instances.
use Rattle.std.specs.Prelude.{◌≡◌, List, [], ◌∷◌, Some, None, codes}
use Rattle.netlist_schema.specs.Design.{Design}
use Rattle.netlist_schema.specs.declared.cell.Direction.TheVariants.{Input, Output}
use Rattle.flat_spec.specs.ExampleParts.{named, renamed, id_of, scalar, array, own_bit, own_port, on_port, inst_named, inst, net_named, net, says, leaf, body, lib, top}
use Rattle.flat_spec.specs.Flattening.{flattening}
use Rattle.flat_spec.specs.Paths.{at_path}
use Rattle.flat_spec.specs.declared.item.Item.{Item}
use Rattle.flat_spec.specs.declared.item.Item.TheVariants.{Enter, Net, Pin}

-- a register and an inverter that feeds it
abbrev pub counter : Design
counter = record {
  title = named (codes "counter");
  libs =
      lib (codes "hdi_primitives") (
      leaf (codes "LUT1") (scalar (codes "O") Output ∷ scalar (codes "I0") Input ∷ [])
      ∷ leaf (codes "FDRE") (scalar (codes "Q") Output ∷ scalar (codes "C") Input ∷ scalar (codes "D") Input ∷ [])
      ∷ []
      )
      ∷ lib (codes "work") (
      body (codes "counter")
      (scalar (codes "clk") Input ∷ array (renamed (codes "q") (codes "q[1:0]")) 2 Output ∷ [])
      (inst_named (renamed (codes "q_reg_0_") (codes "q_reg[0]")) (id_of 0 1) (says (codes "INIT") (codes "1'b0") ∷ [])
      ∷ inst (codes "q_i_1") (id_of 0 0) (says (codes "INIT") (codes "2'h1") ∷ [])
      ∷ [])
      (net (codes "clk") (on_port 0 1 ∷ own_port 0 ∷ [])
      ∷ net_named (renamed (codes "q_0_") (codes "q[0]")) (on_port 1 1 ∷ on_port 0 0 ∷ own_bit 1 1 ∷ [])
      ∷ net (codes "p_0_in") (on_port 0 2 ∷ on_port 1 0 ∷ [])
      ∷ [])
      ∷ []
      )
      ∷ [];
  top = top (codes "counter") (id_of 1 0) (says (codes "part") (codes "xc7a35t") ∷ []);
  notes = [];
}

-- the nets of the top, then its pins, of which no net joins bit 0 of q; then each leaf with its pins
abbrev pub counter_items : List Item
counter_items =
    Enter [] (id_of 1 0) (says (codes "part") (codes "xc7a35t") ∷ [])
    ∷ Net [] 0 (at_path [] 0)
    ∷ Net [] 1 (at_path [] 1)
    ∷ Net [] 2 (at_path [] 2)
    ∷ Pin [] 0 0 (Some (at_path [] 0))
    ∷ Pin [] 1 0 None
    ∷ Pin [] 1 1 (Some (at_path [] 1))
    ∷ Enter (0 ∷ []) (id_of 0 1) (says (codes "INIT") (codes "1'b0") ∷ [])
    ∷ Pin (0 ∷ []) 0 0 (Some (at_path [] 1))
    ∷ Pin (0 ∷ []) 1 0 (Some (at_path [] 0))
    ∷ Pin (0 ∷ []) 2 0 (Some (at_path [] 2))
    ∷ Enter (1 ∷ []) (id_of 0 0) (says (codes "INIT") (codes "2'h1") ∷ [])
    ∷ Pin (1 ∷ []) 0 0 (Some (at_path [] 2))
    ∷ Pin (1 ∷ []) 1 0 (Some (at_path [] 1))
    ∷ []

-- the flattening of the counter is these items
abbrev pub CounterIsFlattened : Type 0
CounterIsFlattened = flattening counter ≡ counter_items
