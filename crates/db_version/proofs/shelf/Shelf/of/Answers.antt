use Rattle.std.proofs.Common.{◌≡◌, List, map, ap, sym, subst, ◌∙◌}
use Rattle.std.specs.Arc.{arc_value}
use Rattle.std.specs.FinMap.{values}
use Rattle.netlist_schema.specs.Names.{cell_names}
use Rattle.netlist_schema.specs.Types.{CellBody}
use Rattle.ver_table.specs.Rows.{Lists}
use Rattle.ver_table.proofs.Listed.{values-Lists}
use Rattle.db_version.proofs.shelf.Shelf.of.Goals as goal
use Rattle.db_version.proofs.shelf.Shelf.of.Goals.{In_ok-cells}

bodies_are : (c : In_ok-cells) → map arc_value c.in_ok-bodies.bodies.items ≡ c.args.lib.cells
bodies_are c = c.in_ok-bodies.ensures ∙ c.into_vec.ensures

values_are : (c : In_ok-cells) → values c.in_ok-cells.cells ≡ c.args.lib.cells
values_are c = values-Lists c.in_ok-cells.cells (map arc_value c.in_ok-bodies.bodies.items) c.in_ok-cells.ensures ∙ bodies_are c

pub invariant_of-result : goal.invariant_of-result
invariant_of-result c = record {
  listed = subst (λ (items : List CellBody). Lists c.in_ok-cells.cells items) (bodies_are c ∙ sym (values_are c)) c.in_ok-cells.ensures;
  named = c.in_ok-directory-2.ensures.ok ∙ (c.in_ok-directory.ensures ∙ ap cell_names (c.as_slice.ensures ∙ sym (values_are c)));
}

pub returns : goal.returns
returns c = λ i. record { head = c.in_ok-head.ensures.ok i; cells = values_are c i }
