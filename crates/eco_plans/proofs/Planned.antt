-- What the operations on contents come to.
use Rattle.std.proofs.Common.{◌≡◌, ℕ, List, [], ◌∷◌, length, Option, Some, None, refl, ap, ◌∙◌}
use Rattle.std.specs.Option.{option_map, option_map_or}
use Rattle.std.specs.Prelude.{option_to_list, is_none}
use Rattle.netlist_schema.specs.Design.{Design, insts_in, nets_in}
use Rattle.netlist_schema.specs.Types.{CellBody, CellId, Net}
use Rattle.edit_rules_spec.specs.Edit.{inner}
use Rattle.edit_rules_spec.specs.Find.{cell_named}
use Rattle.edit_rules_spec.specs.Rule.{first, unless}
use Rattle.edit_rules_spec.specs.Seen.{contents_at, inside, named, ports_seen}
use Rattle.edit_rules_spec.specs.Objects.{face_at, face_of}
use Rattle.edit_spec.specs.AddNet.{no_new_net, with_net}
use Rattle.edit_spec.specs.Inside.{set_nets}
use Rattle.edit_spec.specs.Rows.{outcome}
use Rattle.edit_rules_spec.specs.declared.reply.CellName.{CellName}
use Rattle.edit_spec.specs.declared.ops.Op.TheVariants.{AddNet, ShowCell}
use Rattle.edit_rules_spec.specs.declared.reply.Reply.TheVariants.{Cell, Done}
use Rattle.edit_cells.specs.Parts.{Seen, seen_of, shown_by}
use Rattle.edit_cells.specs.declared.face.Face.{Face}
use Rattle.eco_reads.proofs.Found.{face_is, found_first, found_row, inside_is}

-- other nets of the cell that is found
pub set_nets_is : (d : Design) (name : CellName) (id : CellId) (change : List Net → List Net) → cell_named d name ≡ Some id → set_nets (named d name) (inside d name) change ≡ inner id (record { insts = insts_in (contents_at d id); nets = change (nets_in (contents_at d id)) }) ∷ []
set_nets_is d name id change is = λ i. option_to_list (option_map (λ (c : CellId). inner c (record { insts = insts_in (inside_is d name id is i); nets = change (nets_in (inside_is d name id is i)) })) (is i))

pub add_net_comes : (d : Design) (name : CellName) (net : List ℕ) (id : CellId) → cell_named d name ≡ Some id → outcome d (AddNet name net) ≡ unless (first (no_new_net (contents_at d id) net)) Done (inner id (record { insts = insts_in (contents_at d id); nets = with_net net (nets_in (contents_at d id)) }) ∷ [])
add_net_comes d name net id is =
    found_row d name id (no_new_net (inside d name) net) Done (set_nets (named d name) (inside d name) (with_net net)) is
    ∙ (λ i. unless (first (no_new_net (inside_is d name id is i) net)) Done (set_nets_is d name id (with_net net) is i))

-- a cell that is shown
pub ports_are : (face : Option Face) (o : Option CellBody) → option_map shown_by face ≡ option_map seen_of o → option_map_or (λ seen. length seen.ports.now) face 0 ≡ option_map_or length (ports_seen (option_map face_of o)) 0
ports_are None None is = refl
ports_are None (Some body) is = cc
ports_are (Some face) None is = cc
ports_are (Some face) (Some body) is = ap (λ (s : Option Seen). option_map_or (λ (x : Seen). length x.ports) s 0) is

pub show_cell_comes : (d : Design) (name : CellName) (id : CellId) → cell_named d name ≡ Some id → outcome d (ShowCell name) ≡ record { reply = Cell (option_map_or length (ports_seen (face_at d id)) 0) (length (insts_in (contents_at d id))) (length (nets_in (contents_at d id))) (is_none (contents_at d id)); edits = [] }
show_cell_comes d name id is = λ i. unless (found_first d name id [] is i) (Cell (option_map_or length (ports_seen (face_is d name id is i)) 0) (length (insts_in (inside_is d name id is i))) (length (nets_in (inside_is d name id is i))) (is_none (inside_is d name id is i))) []
