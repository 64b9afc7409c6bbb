use Rattle.std.proofs.Common.{◌≡◌, ◌≤◌, ◌++◌, List, length}
use Rattle.std.specs.Prelude.{sum_by}
use Rattle.edif_spelling_spec.specs.Tree.{Placed}
use Rattle.netlist_schema.specs.Design.{port_width}
use Rattle.edif_tree.specs.Handles.{all}
use Rattle.edif_tree.specs.Eaches.{left}
use Rattle.edif_parts.proofs.PortLists.{PortForms}
use Rattle.edif_parts.proofs.interface.add_ports.Given as goal

abbrev pub invariant-loop-node : goal.invariant-loop-node
invariant-loop-node l = record {
  can_next : (goal.iterator-loop-node).can_next l.node-iterator;
  is_finite : (goal.iterator-loop-node).is_finite l.node-iterator;
  forms : (before : List Placed) × (all l.fn.inner ≡ before ++ left l.node-iterator) × PortForms before l.ports.items l.names;
  count : length l.ports.items ≤ 65536;
  sum : l.bits ≡ sum_by port_width l.ports.items;
  bits : l.bits ≤ 1048576;
}
