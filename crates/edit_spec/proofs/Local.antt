-- Each operation sees what it needs and no more.
use Rattle.edit_rules_spec.specs.Local.{IsLocal}
use Rattle.edit_spec.specs.Needs.{Needs}
use Rattle.edit_spec.specs.Rows.{row_of}
use Rattle.edit_spec.specs.Typed.{IsTypedOp}
use Rattle.edit_spec.specs.declared.ops.Op.{Op}
use Rattle.edit_spec.specs.declared.ops.Op.TheVariants.{ShowCell, ShowNet, ShowInst, AddCell, AddNet, DropNet, AddInst, DropInst, Join, Cut, SetProp, SetNote, DropNote, Uniquify, UniquePath, Ungroup}
use Rattle.ungroup_spec.proofs.FrameLemmas.{ungroup_is_local}
use Rattle.uniquify_spec.proofs.UniquePathLocal.{unique_path_is_local}
use Rattle.uniquify_spec.proofs.UniquifyLocal.{uniquify_is_local}
use Rattle.edit_spec.proofs.AddCell.{add_cell_local}
use Rattle.edit_spec.proofs.AddInst.{add_inst_local}
use Rattle.edit_spec.proofs.AddNet.{add_net_local}
use Rattle.edit_spec.proofs.Cut.{cut_local}
use Rattle.edit_spec.proofs.DropInst.{drop_inst_local}
use Rattle.edit_spec.proofs.DropNet.{drop_net_local}
use Rattle.edit_spec.proofs.DropNote.{drop_note_local}
use Rattle.edit_spec.proofs.Join.{join_local}
use Rattle.edit_spec.proofs.SetNote.{set_note_local}
use Rattle.edit_spec.proofs.SetProp.{set_prop_local}
use Rattle.edit_spec.proofs.ShowCell.{show_cell_local}
use Rattle.edit_spec.proofs.ShowInst.{show_inst_local}
use Rattle.edit_spec.proofs.ShowNet.{show_net_local}

pub local : (op : Op) → IsLocal (λ d. row_of d op) (λ d. Needs d op) (IsTypedOp op)
local (ShowCell cell) = show_cell_local cell
local (ShowNet cell net) = show_net_local cell net
local (ShowInst cell inst) = show_inst_local cell inst
local (AddCell cell leaf ports) = add_cell_local cell leaf ports
local (AddNet cell net) = add_net_local cell net
local (DropNet cell net) = drop_net_local cell net
local (AddInst cell inst of) = add_inst_local cell inst of
local (DropInst cell inst) = drop_inst_local cell inst
local (Join cell net end) = join_local cell net end
local (Cut cell end) = cut_local cell end
local (SetProp cell target property) = set_prop_local cell target property
local (SetNote path property) = set_note_local path property
local (DropNote path key) = drop_note_local path key
local Uniquify = uniquify_is_local
local (UniquePath path) = unique_path_is_local path
local (Ungroup cell inst) = ungroup_is_local cell inst
