-- The table of operations.
use Rattle.netlist_schema.specs.Design.{Design}
use Rattle.edit_rules_spec.specs.Rule.{Rule, Outcome, ruled}
use Rattle.ungroup_spec.specs.Ungroup.{ungroup}
use Rattle.uniquify_spec.specs.Rows.{uniquify_row, unique_path_row}
use Rattle.edit_spec.specs.AddCell.{add_cell_of}
use Rattle.edit_spec.specs.AddInst.{add_inst_of}
use Rattle.edit_spec.specs.AddNet.{add_net_of}
use Rattle.edit_spec.specs.Cut.{cut_of}
use Rattle.edit_spec.specs.DropInst.{drop_inst_of}
use Rattle.edit_spec.specs.DropNet.{drop_net_of}
use Rattle.edit_spec.specs.DropNote.{drop_note_of}
use Rattle.edit_spec.specs.Join.{join_of}
use Rattle.edit_spec.specs.SetNote.{set_note_of}
use Rattle.edit_spec.specs.SetProp.{set_prop_of}
use Rattle.edit_spec.specs.ShowCell.{show_cell_of}
use Rattle.edit_spec.specs.ShowInst.{show_inst_of}
use Rattle.edit_spec.specs.ShowNet.{show_net_of}
use Rattle.edit_spec.specs.declared.ops.Op.{Op}
use Rattle.edit_spec.specs.declared.ops.Op.TheVariants.{ShowCell, ShowNet, ShowInst, AddCell, AddNet, DropNet, AddInst, DropInst, Join, Cut, SetProp, SetNote, DropNote, Uniquify, UniquePath, Ungroup}

-- the row of each operation: the refusals in order, the reply, and what is changed
abbrev pub row_of : Design → Op → Rule
row_of d (ShowCell cell) = show_cell_of cell d
row_of d (ShowNet cell net) = show_net_of cell net d
row_of d (ShowInst cell inst) = show_inst_of cell inst d
row_of d (AddCell cell leaf ports) = add_cell_of cell leaf ports d
row_of d (AddNet cell net) = add_net_of cell net d
row_of d (DropNet cell net) = drop_net_of cell net d
row_of d (AddInst cell inst of) = add_inst_of cell inst of d
row_of d (DropInst cell inst) = drop_inst_of cell inst d
row_of d (Join cell net end) = join_of cell net end d
row_of d (Cut cell end) = cut_of cell end d
row_of d (SetProp cell target property) = set_prop_of cell target property d
row_of d (SetNote path property) = set_note_of path property d
row_of d (DropNote path key) = drop_note_of path key d
row_of d Uniquify = uniquify_row d
row_of d (UniquePath path) = unique_path_row d path
row_of d (Ungroup cell inst) = ungroup d cell inst

abbrev pub outcome : Design → Op → Outcome
outcome d op = ruled (row_of d op)
