use Rattle.std.proofs.Common.{◌≡◌, take}
use Rattle.std.specs.BTreeSet.{contains}
use Rattle.std.specs.List.{list_any}
use Rattle.netlist_schema.specs.Order.{cell_cmp}
use Rattle.netlist_schema.specs.Types.{CellId}
use Rattle.edit_rules_spec.specs.Paths.{same_cell}
use Rattle.used_keep.proofs.places.set_of.Given as goal

-- the set has those so far
abbrev pub invariant-loop-cell : goal.invariant-loop-cell
invariant-loop-cell l = (id : CellId) → contains cell_cmp l.set id ≡ list_any (λ cell. same_cell cell id) (take l.cell-index l.cells)
