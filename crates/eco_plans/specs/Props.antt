-- Contents with a property set.
use Rattle.std.specs.Prelude.{ℕ, List, Option}
use Rattle.netlist_schema.specs.Design.{insts_in, nets_in}
use Rattle.netlist_schema.specs.Types.{Contents, Property}
use Rattle.edit_spec.specs.SetProp.{insts_with_property, nets_with_property}

-- of an instance, and of a net
abbrev pub insts_set : List ℕ → Property → Option Contents → Contents
insts_set inst property contents = record { insts = insts_with_property inst property (insts_in contents); nets = nets_in contents }

abbrev pub nets_set : List ℕ → Property → Option Contents → Contents
nets_set net property contents = record { insts = insts_in contents; nets = nets_with_property net property (nets_in contents) }
