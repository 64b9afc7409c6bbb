-- The designs, operations and events of the worked histories.
use Rattle.std.specs.Prelude.{ℕ, false, List, [], ◌∷◌, Some, None, codes}
use Rattle.netlist_schema.specs.Design.{Design}
use Rattle.netlist_schema.specs.Types.{CellBody, CellId, Name}
use Rattle.netlist_schema.specs.declared.cell.CellKind.TheVariants.{Generic}
use Rattle.edit_rules_spec.specs.declared.reply.CellName.{CellName}
use Rattle.edit_spec.specs.declared.ops.Op.{Op}
use Rattle.edit_spec.specs.declared.ops.Op.TheVariants.{AddInst, AddNet}
use Rattle.db_spec.specs.declared.event.Answer.{Answer}
use Rattle.db_spec.specs.declared.event.Call.{Call}
use Rattle.db_spec.specs.declared.event.Event.{Event}

-- the call of a caller, and its answer
abbrev pub event : ℕ → Call → Answer → Event
event caller call answer = record { caller = caller; call = call; answer = answer }

-- a name without a shown text
abbrev pub plain : List ℕ → Name
plain id = record { id = id; shown = None }

-- a cell with nothing in it
abbrev pub empty_cell : List ℕ → CellBody
empty_cell id = record {
  name = plain id;
  kind = Generic;
  properties = [];
  view = plain (codes "v");
  view_properties = [];
  interface_properties = [];
  ports = [];
  contents = Some (record { insts = []; nets = [] });
}

-- a design of one library, w, with these cells
abbrev pub design_of : List CellBody → Design
design_of cells = record {
  title = plain (codes "e");
  libs = record { head = record { name = plain (codes "w"); external = false }; cells = cells } ∷ [];
  top = None;
  notes = [];
}

-- a cell of w by its name
abbrev pub in_w : List ℕ → CellName
in_w cell = record { lib = codes "w"; cell = cell }

-- a cell of w by its place
abbrev pub at_place : ℕ → CellId
at_place slot = record { lib = record { 0 = 0 }; slot = slot }

-- places an instance i of a cell in another cell
abbrev pub place : List ℕ → List ℕ → Op
place of cell = AddInst (in_w cell) (codes "i") (in_w of)

-- adds a net n to a cell
abbrev pub net_in : List ℕ → Op
net_in cell = AddNet (in_w cell) (codes "n")
