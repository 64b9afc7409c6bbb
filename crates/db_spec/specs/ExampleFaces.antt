-- Worked histories on a cell and the cell that places it: a commit inside the one leaves the other free, and a commit on its
-- interface does not.
use Rattle.std.specs.Prelude.{ℕ, pos, List, [], ◌∷◌, Some, None, codes}
use Rattle.netlist_schema.specs.Design.{Design}
use Rattle.netlist_schema.specs.Types.{CellBody}
use Rattle.netlist_schema.specs.declared.cell.Direction.TheVariants.{Inout}
use Rattle.netlist_schema.specs.declared.ids.Object.TheVariants.{Interface}
use Rattle.netlist_schema.specs.declared.property.Value.TheVariants.{Integer}
use Rattle.edit_rules_spec.specs.declared.reply.Reply.TheVariants.{Done}
use Rattle.edit_spec.specs.declared.ops.Op.{Op}
use Rattle.edit_spec.specs.declared.ops.Op.TheVariants.{Join, SetProp}
use Rattle.edit_spec.specs.declared.ops.Target.TheVariants.{Whole}
use Rattle.db_spec.specs.declared.event.Answer.TheVariants.{Pinned, Committed, Conflict}
use Rattle.db_spec.specs.declared.event.Call.TheVariants.{Pin, Commit}
use Rattle.db_spec.specs.declared.event.Event.{Event}
use Rattle.db_spec.specs.Example.{event, plain, empty_cell, design_of, in_w, at_place, net_in}
use Rattle.db_spec.specs.History.{Legal}

-- a cell A with a port p and nothing in it, and a cell T with an instance a of A and a net x
abbrev cell_a : CellBody
cell_a = record (empty_cell (codes "A")) { ports = record { name = plain (codes "p"); array = None; direction = Some Inout; designator = None; properties = [] } ∷ [] }

abbrev cell_t : CellBody
cell_t = record (empty_cell (codes "T")) {
  contents = Some (record {
    insts = record { name = plain (codes "a"); of = at_place 0; designator = None; properties = [] } ∷ [];
    nets = record { name = plain (codes "x"); ends = []; properties = [] } ∷ [];
  });
}

abbrev pub one_in_another : Design
one_in_another = design_of (cell_a ∷ cell_t ∷ [])

-- adds a net inside A
abbrev pub inside_a : List Op
inside_a = net_in (codes "A") ∷ []

-- sets a property of A's own
abbrev pub property_of_a : ℕ → List Op
property_of_a n = SetProp (in_w (codes "A")) Whole (record { key = plain (codes "K"); value = Integer (pos n); owner = None }) ∷ []

-- joins A's port to the net of T
abbrev pub joins_a : List Op
joins_a = Join (in_w (codes "T")) (codes "x") (record { inst = Some (codes "a"); port = codes "p"; bit = 0 }) ∷ []

-- the one changes the inside of A, the other joins A's port from outside: both are done
abbrev pub inside_and_outside : List Event
inside_and_outside =
    event 0 Pin (Pinned 0 0)
    ∷ event 1 Pin (Pinned 1 0)
    ∷ event 0 (Commit 0 inside_a) (Committed 1 (Done ∷ []))
    ∷ event 1 (Commit 1 joins_a) (Committed 2 (Done ∷ []))
    ∷ []

-- the one sets a property of A's own: the other, which read A's interface, may neither join its port nor set the property
abbrev pub interface_and_outside : List Event
interface_and_outside =
    event 0 Pin (Pinned 0 0)
    ∷ event 1 Pin (Pinned 1 0)
    ∷ event 0 (Commit 0 (property_of_a 1)) (Committed 1 (Done ∷ []))
    ∷ event 1 (Commit 1 joins_a) (Conflict (Interface (at_place 0)) 1)
    ∷ event 1 (Commit 1 (property_of_a 2)) (Conflict (Interface (at_place 0)) 1)
    ∷ []

pub record AreFacesApart : Type 0 where
  pub inside_stays_apart : Legal one_in_another inside_and_outside
  pub interface_is_shared : Legal one_in_another interface_and_outside
