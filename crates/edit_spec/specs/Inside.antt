-- What operations see and change of the contents of the cell that is named.
use Rattle.std.specs.Prelude.{ℕ, List, Option, is_none, option_map, option_to_list}
use Rattle.netlist_schema.specs.Design.{insts_in, nets_in}
use Rattle.netlist_schema.specs.Types.{Contents, Inst, Net}
use Rattle.edit_rules_spec.specs.Edit.{Edit, inner}
use Rattle.edit_rules_spec.specs.Find.{net_place}
use Rattle.edit_rules_spec.specs.Rule.{refuse}
use Rattle.edit_rules_spec.specs.Seen.{Named}
use Rattle.edit_rules_spec.specs.declared.reply.Reply.{Reply}
use Rattle.edit_rules_spec.specs.declared.reply.Reply.TheVariants.{NoNet}

abbrev pub no_net : Option Contents → List ℕ → Option Reply
no_net contents name = refuse (is_none (net_place name (nets_in contents))) NoNet

-- the change of the contents of the cell that is named
abbrev pub set_nets : Named → Option Contents → (List Net → List Net) → List Edit
set_nets at contents change = option_to_list (option_map (λ id. inner id (record { insts = insts_in contents; nets = change (nets_in contents) })) at.cell)

abbrev pub set_insts : Named → Option Contents → (List Inst → List Inst) → List Edit
set_insts at contents change = option_to_list (option_map (λ id. inner id (record { insts = change (insts_in contents); nets = nets_in contents })) at.cell)
