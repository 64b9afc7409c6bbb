-- The designs that plans give.
use Rattle.std.specs.Prelude.{ℕ, List, [], ◌∷◌, Option, None, codes, false, map}
use Rattle.std.specs.Borrow.{Bor}
use Rattle.std.specs.Option.{option_map}
use Rattle.netlist_schema.specs.Design.{Design}
use Rattle.netlist_schema.specs.Types.{CellBody, CellId, Contents, Direction, End, Inst, Lib, Name, Net, Note, Port, Property, TopHead}
use Rattle.netlist_schema.specs.declared.cell.CellKind.TheVariants.{Generic}
use Rattle.netlist_schema.specs.declared.property.Value.TheVariants.{Text}
use Rattle.test_hand_designs.specs.declared.plans.CellPlan.{CellPlan}
use Rattle.test_hand_designs.specs.declared.plans.Inside.{Inside}
use Rattle.test_hand_designs.specs.declared.plans.DesignPlan.{DesignPlan}

-- a name with no shown text
abbrev pub plain : List ℕ → Name
plain id = record { id = id; shown = None }

-- the cell at a place of the library
abbrev pub id_at : ℕ → CellId
id_at slot = record { lib = record { 0 = 0 }; slot = slot }

-- each part has what is planned and nothing else: a property its key and its text
abbrev pub planned_property : Bor (List ℕ) × Bor (List ℕ) → Property
planned_property p = record { key = plain p.0.now; value = Text p.1.now; owner = None }

-- a port its identifier and its direction
abbrev pub planned_port : Bor (List ℕ) × Option Direction → Port
planned_port p = record { name = plain p.0.now; array = None; direction = p.1; designator = None; properties = [] }

-- an instance its identifier, its cell and its properties
abbrev pub planned_inst : Bor (List ℕ) × ℕ × Bor (List (Bor (List ℕ) × Bor (List ℕ))) → Inst
planned_inst p = record { name = plain p.0.now; of = id_at p.1; designator = None; properties = map planned_property p.2.now }

-- a net its identifier and the bits that it joins
abbrev pub planned_end : Option ℕ × ℕ → End
planned_end p = record { inst = p.0; port = p.1; bit = 0 }

abbrev pub planned_net : Bor (List ℕ) × Bor (List (Option ℕ × ℕ)) → Net
planned_net p = record { name = plain p.0.now; ends = map planned_end p.1.now; properties = [] }

abbrev pub planned_inside : Inside → Contents
planned_inside p = record { insts = map planned_inst p.insts.now; nets = map planned_net p.nets.now }

-- the view of each cell is v
abbrev pub planned_cell : CellPlan → CellBody
planned_cell p = record {
  name = plain p.id.now;
  kind = Generic;
  properties = [];
  view = plain (codes "v");
  view_properties = [];
  interface_properties = [];
  ports = map planned_port p.ports.now;
  contents = option_map planned_inside p.inside;
}

abbrev pub planned_top : Bor (List ℕ) × ℕ → TopHead
planned_top p = record { name = plain p.0.now; cell = id_at p.1; properties = [] }

abbrev pub lent : Bor (List ℕ) → List ℕ
lent b = b.now

abbrev pub planned_note : Bor (List (Bor (List ℕ))) × (Bor (List ℕ) × Bor (List ℕ)) → Note
planned_note p = record { path = map lent p.0.now; property = planned_property p.1 }

-- the design is e, and its library is w
abbrev pub planned_lib : List CellPlan → Lib
planned_lib cells = record { head = record { name = plain (codes "w"); external = false }; cells = map planned_cell cells }

abbrev pub planned : DesignPlan → Design
planned p = record {
  title = plain (codes "e");
  libs = planned_lib p.cells.now ∷ [];
  top = option_map planned_top p.top;
  notes = map planned_note p.notes.now;
}
