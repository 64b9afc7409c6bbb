-- Adding a net.
use Rattle.std.specs.List.{list_any}
use Rattle.std.specs.Prelude.{◌++◌, ℕ, List, [], ◌∷◌, Option, None, length}
use Rattle.netlist_schema.specs.Design.{Design, nets_in}
use Rattle.netlist_schema.specs.Types.{Contents, Net, Object}
use Rattle.netlist_schema.specs.declared.limits.TheConstants.{MOST_NETS}
use Rattle.edit_rules_spec.specs.Find.{is_same}
use Rattle.edit_rules_spec.specs.Reading.{IsForCell}
use Rattle.edit_rules_spec.specs.Rule.{too_many, Rule, refuse, no_lib, no_cell, is_leaf}
use Rattle.edit_rules_spec.specs.Seen.{Named, named, inside}
use Rattle.edit_rules_spec.specs.declared.reply.CellName.{CellName}
use Rattle.edit_rules_spec.specs.declared.reply.Reply.{Reply}
use Rattle.edit_rules_spec.specs.declared.reply.Reply.TheVariants.{Done, Taken}
use Rattle.edit_spec.specs.Inside.{set_nets}

-- a net has this name, where the case of letters is ignored
abbrev pub taken_net : Option Contents → List ℕ → Option Reply
taken_net contents name = refuse (list_any (λ net. is_same net.name.id name) (nets_in contents)) Taken

-- a new net
abbrev pub new_net : List ℕ → Net
new_net name = record { name = record { id = name; shown = None }; ends = []; properties = [] }

-- the nets with one more
abbrev pub with_net : List ℕ → List Net → List Net
with_net name nets = nets ++ new_net name ∷ []

-- the refusals to add a net to contents
abbrev pub no_new_net : Option Contents → List ℕ → List (Option Reply)
no_new_net contents net = is_leaf contents ∷ taken_net contents net ∷ too_many (length (nets_in contents)) MOST_NETS ∷ []

abbrev pub add_net : Named → Option Contents → List ℕ → Rule
add_net at contents net = record {
  refusals = no_lib at ∷ no_cell at ∷ no_new_net contents net;
  reply = Done;
  edits = set_nets at contents (with_net net);
}

abbrev pub add_net_of : CellName → List ℕ → Design → Rule
add_net_of cell net d = add_net (named d cell) (inside d cell) net

-- it needs the cell and its contents
abbrev pub add_net_needs : CellName → Design → Object → Type 0
add_net_needs cell d o = IsForCell d cell o
