-- Removing an instance, its ends, and the notes whose paths go through it.
use Rattle.std.specs.List.{flat_map}
use Rattle.std.specs.Option.{option_map_or}
use Rattle.std.specs.Prelude.{◌==◌, ◌-◌, ◌++◌, ℕ, cond, nat_lt, List, [], ◌∷◌, Option, Some, None, map, length, remove, option_map, option_to_list, ◌⊎◌}
use Rattle.netlist_schema.specs.Design.{Design, insts_in, nets_in}
use Rattle.netlist_schema.specs.Types.{Contents, End, Net, Note, Object}
use Rattle.edit_rules_spec.specs.Edit.{Edit, inner, noted}
use Rattle.edit_rules_spec.specs.Find.{cell_named, inst_place}
use Rattle.edit_rules_spec.specs.Notes.{other_notes, seen_if}
use Rattle.edit_rules_spec.specs.Reading.{IsForCell, IsForNotes}
use Rattle.edit_rules_spec.specs.Rule.{Rule, no_lib, no_cell, no_inst}
use Rattle.edit_rules_spec.specs.Seen.{Named, named, inside}
use Rattle.edit_rules_spec.specs.declared.reply.CellName.{CellName}
use Rattle.edit_rules_spec.specs.declared.reply.Reply.TheVariants.{Done}

-- the ends without those of an instance, where later instances move one place forward
abbrev pub end_moved : ℕ → End → Option ℕ → List End
end_moved place end None = end ∷ []
end_moved place end (Some i) = cond (i == place) [] (record end { inst = Some (cond (nat_lt place i) (i - 1) i) } ∷ [])

abbrev pub end_without_inst : ℕ → End → List End
end_without_inst place end = end_moved place end end.inst

abbrev pub net_without_inst : ℕ → Net → Net
net_without_inst place net = record net { ends = flat_map (end_without_inst place) net.ends }

-- the contents without an instance
abbrev pub without_inst : Option Contents → List ℕ → Contents
without_inst contents name = record {
  insts = option_map_or (remove (insts_in contents)) (inst_place name (insts_in contents)) (insts_in contents);
  nets = option_map_or (λ place. map (net_without_inst place) (nets_in contents)) (inst_place name (insts_in contents)) (nets_in contents);
}

-- the notes, where they changed
abbrev pub set_notes : List Note → List Note → List Edit
set_notes old new = cond (length new == length old) [] (noted new ∷ [])

abbrev pub drop_inst : Named → Option Contents → List Note → List Note → List ℕ → Rule
drop_inst at contents notes others inst = record {
  refusals = no_lib at ∷ no_cell at ∷ no_inst contents inst ∷ [];
  reply = Done;
  edits = option_to_list (option_map (λ id. inner id (without_inst contents inst)) at.cell) ++ set_notes notes others;
}

abbrev pub drop_inst_of : CellName → List ℕ → Design → Rule
drop_inst_of cell inst d = drop_inst (named d cell) (inside d cell) (seen_if (cell_named d cell) d.notes) (seen_if (cell_named d cell) (other_notes d (cell_named d cell) inst)) inst

-- it needs the cell and its contents and, where the cell is found, the notes and the contents of the cells that their paths reach
abbrev pub drop_inst_needs : CellName → Design → Object → Type 0
drop_inst_needs cell d o = IsForCell d cell o ⊎ IsForNotes d (cell_named d cell) d.top o
