-- What operations read and write, as sets of objects.
use Rattle.std.specs.Prelude.{◌⊎◌, List, [], ◌∷◌}
use Rattle.netlist_schema.specs.Design.{Design}
use Rattle.netlist_schema.specs.Types.{Object}
use Rattle.edit_rules_spec.specs.Edit.{IsChanged}
use Rattle.ungroup_spec.specs.Needs.{Needs as ungroup_needs}
use Rattle.uniquify_spec.specs.Needs.{UniquifyNeeds, UniquePathNeeds}
use Rattle.edit_spec.specs.AddCell.{add_cell_needs}
use Rattle.edit_spec.specs.AddInst.{add_inst_needs}
use Rattle.edit_spec.specs.AddNet.{add_net_needs}
use Rattle.edit_spec.specs.Cut.{cut_needs}
use Rattle.edit_spec.specs.DropInst.{drop_inst_needs}
use Rattle.edit_spec.specs.DropNet.{drop_net_needs}
use Rattle.edit_spec.specs.DropNote.{drop_note_needs}
use Rattle.edit_spec.specs.Join.{join_needs}
use Rattle.edit_spec.specs.Rows.{outcome}
use Rattle.edit_spec.specs.SetNote.{set_note_needs}
use Rattle.edit_spec.specs.SetProp.{set_prop_needs}
use Rattle.edit_spec.specs.ShowCell.{show_cell_needs}
use Rattle.edit_spec.specs.ShowInst.{show_inst_needs}
use Rattle.edit_spec.specs.ShowNet.{show_net_needs}
use Rattle.edit_spec.specs.Step.{step}
use Rattle.edit_spec.specs.declared.ops.Op.{Op}
use Rattle.edit_spec.specs.declared.ops.Op.TheVariants.{ShowCell, ShowNet, ShowInst, AddCell, AddNet, DropNet, AddInst, DropInst, Join, Cut, SetProp, SetNote, DropNote, Uniquify, UniquePath, Ungroup}

-- the objects that an operation needs
abbrev pub Needs : Design → Op → Object → Type 0
Needs d (ShowCell cell) o = show_cell_needs cell d o
Needs d (ShowNet cell net) o = show_net_needs cell net d o
Needs d (ShowInst cell inst) o = show_inst_needs cell d o
Needs d (AddCell cell leaf ports) o = add_cell_needs cell d o
Needs d (AddNet cell net) o = add_net_needs cell d o
Needs d (DropNet cell net) o = drop_net_needs cell d o
Needs d (AddInst cell inst of) o = add_inst_needs cell of d o
Needs d (DropInst cell inst) o = drop_inst_needs cell d o
Needs d (Join cell net end) o = join_needs cell end d o
Needs d (Cut cell end) o = cut_needs cell end d o
Needs d (SetProp cell target property) o = set_prop_needs cell target d o
Needs d (SetNote path property) o = set_note_needs path d o
Needs d (DropNote path key) o = drop_note_needs d o
Needs d Uniquify o = UniquifyNeeds d o
Needs d (UniquePath path) o = UniquePathNeeds d path o
Needs d (Ungroup cell inst) o = ungroup_needs d cell inst o

-- the objects that an operation writes
abbrev pub Writes : Design → Op → Object → Type 0
Writes d op o = IsChanged (outcome d op).edits o

-- the objects that operations need and write, each at its own step
abbrev pub Reads : Design → List Op → Object → Type 0
Reads d [] o = ⊥
Reads d (op ∷ ops) o = Needs d op o ⊎ Reads (step d op).design ops o

abbrev pub Written : Design → List Op → Object → Type 0
Written d [] o = ⊥
Written d (op ∷ ops) o = Writes d op o ⊎ Written (step d op).design ops o
