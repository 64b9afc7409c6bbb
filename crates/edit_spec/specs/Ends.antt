-- The ends of nets, as operations name and find them.
use Rattle.std.specs.List.{flat_map}
use Rattle.std.specs.Prelude.{ℕ, Bool, nat_le, List, Option, Some, None, is_none, find, option_map, option_and_then}
use Rattle.netlist_schema.specs.Design.{insts_in, nets_in, port_width}
use Rattle.netlist_schema.specs.Types.{Contents, End, Net, Port}
use Rattle.flat_spec.specs.ConnectionTest.{has_end}
use Rattle.edit_rules_spec.specs.Find.{inst_place, port_place, port_named}
use Rattle.edit_rules_spec.specs.Rule.{refuse, no_inst}
use Rattle.edit_rules_spec.specs.declared.reply.EndName.{EndName}
use Rattle.edit_rules_spec.specs.declared.reply.Reply.{Reply}
use Rattle.edit_rules_spec.specs.declared.reply.Reply.TheVariants.{NoPort, BadBit}

abbrev pub ends_in : Option Contents → List End
ends_in contents = flat_map (λ net. net.ends) (nets_in contents)

-- for an end: no instance is named, or it is there
abbrev pub no_end_inst : Option Contents → Option (List ℕ) → Option Reply
no_end_inst contents None = None
no_end_inst contents (Some name) = no_inst contents name

abbrev pub no_port : Option (List Port) → List ℕ → Option Reply
no_port ports name = refuse (is_none (option_and_then (port_place name) ports)) NoPort

abbrev pub bad_bit : Option (List Port) → List ℕ → ℕ → Option Reply
bad_bit ports name bit =
    option_and_then (λ port. refuse (nat_le (port_width port) bit) (BadBit (port_width port))) (option_and_then (port_named name) ports)

-- the place of an end's instance
abbrev pub end_inst : Option Contents → Option (List ℕ) → Option ℕ
end_inst contents None = None
end_inst contents (Some name) = inst_place name (insts_in contents)

-- the end with this name, where its port is there
abbrev pub end_named : Option Contents → Option (List Port) → EndName → Option End
end_named contents ports end =
    option_map (λ port. record { inst = end_inst contents end.inst; port = port; bit = end.bit }) (option_and_then (port_place end.port) ports)

-- the net that has the end
abbrev pub joins_end : End → Net → Bool
joins_end end net = has_end net.ends end

abbrev pub net_of_end : Option Contents → Option End → Option Net
net_of_end contents end = option_and_then (λ e. find (joins_end e) (nets_in contents)) end
