-- Setting a property of a cell, of an instance or of a net.
use Rattle.std.specs.Option.{option_map_or}
use Rattle.std.specs.Prelude.{◌++◌, ℕ, List, [], ◌∷◌, Option, slice_set, option_map, option_to_list}
use Rattle.netlist_schema.specs.Design.{Design}
use Rattle.netlist_schema.specs.Types.{Contents, Inst, Net, Property, Object}
use Rattle.edit_rules_spec.specs.Edit.{Edit, own, changed_at}
use Rattle.edit_rules_spec.specs.Find.{inst_place, net_place, property_place}
use Rattle.edit_rules_spec.specs.Reading.{IsForName, IsForCell}
use Rattle.edit_rules_spec.specs.Rule.{Rule, no_lib, no_cell, no_inst}
use Rattle.edit_rules_spec.specs.Seen.{Named, named, inside}
use Rattle.edit_rules_spec.specs.declared.reply.CellName.{CellName}
use Rattle.edit_rules_spec.specs.declared.reply.Reply.TheVariants.{Done}
use Rattle.edit_spec.specs.Inside.{no_net, set_nets, set_insts}
use Rattle.edit_spec.specs.declared.ops.Target.{Target}
use Rattle.edit_spec.specs.declared.ops.Target.TheVariants.{Whole, Inst as OfInst, Net as OfNet}

-- the property of equal key replaced in place, else added
abbrev pub set_property : Property → List Property → List Property
set_property property properties =
    option_map_or (λ place. slice_set properties place property) (property_place property.key.id properties) (properties ++ property ∷ [])

abbrev pub insts_with_property : List ℕ → Property → List Inst → List Inst
insts_with_property name property insts =
    option_map_or (λ place. changed_at (λ inst. record inst { properties = set_property property inst.properties }) place insts) (inst_place name insts) insts

abbrev pub nets_with_property : List ℕ → Property → List Net → List Net
nets_with_property name property nets =
    option_map_or (λ place. changed_at (λ net. record net { properties = set_property property net.properties }) place nets) (net_place name nets) nets

abbrev pub set_own : Named → (List Property → List Property) → List Edit
set_own at change = option_to_list (option_map (λ id. own id (change (option_map_or (λ seen. seen.properties) at.face []))) at.cell)

abbrev pub set_prop_whole : Named → Property → Rule
set_prop_whole at property = record {
  refusals = no_lib at ∷ no_cell at ∷ [];
  reply = Done;
  edits = set_own at (set_property property);
}

abbrev pub set_prop_inst : Named → Option Contents → List ℕ → Property → Rule
set_prop_inst at contents inst property = record {
  refusals = no_lib at ∷ no_cell at ∷ no_inst contents inst ∷ [];
  reply = Done;
  edits = set_insts at contents (insts_with_property inst property);
}

abbrev pub set_prop_net : Named → Option Contents → List ℕ → Property → Rule
set_prop_net at contents net property = record {
  refusals = no_lib at ∷ no_cell at ∷ no_net contents net ∷ [];
  reply = Done;
  edits = set_nets at contents (nets_with_property net property);
}

abbrev pub set_prop_of : CellName → Target → Property → Design → Rule
set_prop_of cell Whole property d = set_prop_whole (named d cell) property
set_prop_of cell (OfInst inst) property d = set_prop_inst (named d cell) (inside d cell) inst property
set_prop_of cell (OfNet net) property d = set_prop_net (named d cell) (inside d cell) net property

-- it needs the cell, and its contents for a property of an instance or a net
abbrev pub set_prop_needs : CellName → Target → Design → Object → Type 0
set_prop_needs cell Whole d o = IsForName d cell o
set_prop_needs cell (OfInst inst) d o = IsForCell d cell o
set_prop_needs cell (OfNet net) d o = IsForCell d cell o
