-- Adding an instance.
use Rattle.std.specs.List.{list_any}
use Rattle.std.specs.Option.{option_map_or}
use Rattle.std.specs.Prelude.{◌++◌, ℕ, Bool, nat_lt, List, [], ◌∷◌, Option, None, length, ◌⊎◌}
use Rattle.netlist_schema.specs.Design.{Design, insts_in}
use Rattle.netlist_schema.specs.Types.{CellId, Contents, Inst, LibId, Object}
use Rattle.netlist_schema.specs.declared.limits.TheConstants.{MOST_INSTS}
use Rattle.edit_rules_spec.specs.Find.{is_same, cell_named}
use Rattle.edit_rules_spec.specs.Paths.{is_cyclic}
use Rattle.edit_rules_spec.specs.Reading.{IsForName, IsForPlacing}
use Rattle.edit_rules_spec.specs.Rule.{too_many, Rule, refuse, no_lib, no_cell, is_leaf}
use Rattle.edit_rules_spec.specs.Seen.{holder, Named, named, inside}
use Rattle.edit_rules_spec.specs.declared.reply.CellName.{CellName}
use Rattle.edit_rules_spec.specs.declared.reply.Reply.{Reply}
use Rattle.edit_rules_spec.specs.declared.reply.Reply.TheVariants.{Done, Taken, IsCyclic, LaterLibrary}
use Rattle.edit_spec.specs.Inside.{set_insts}

abbrev pub is_later : Option LibId → Option LibId → Bool
is_later lib of = nat_lt (option_map_or (λ l. l.0) lib 0) (option_map_or (λ l. l.0) of 0)

abbrev pub taken_inst : Option Contents → List ℕ → Option Reply
taken_inst contents name = refuse (list_any (λ inst. is_same inst.name.id name) (insts_in contents)) Taken

abbrev pub new_inst : List ℕ → CellId → Inst
new_inst name of = record { name = record { id = name; shown = None }; of = of; designator = None; properties = [] }

abbrev pub with_inst : List ℕ → CellId → List Inst → List Inst
with_inst name of insts = insts ++ new_inst name of ∷ []

-- the refusals to add an instance to contents, where both cells are found
abbrev pub no_new_inst : Option Contents → List ℕ → Bool → Bool → List (Option Reply)
no_new_inst contents inst later cyclic =
    is_leaf contents ∷ taken_inst contents inst ∷ refuse later LaterLibrary ∷ refuse cyclic IsCyclic ∷ too_many (length (insts_in contents)) MOST_INSTS ∷ []

abbrev pub add_inst : Named → Option Contents → Named → Bool → List ℕ → Rule
add_inst at contents of cyclic inst = record {
  refusals = no_lib at ∷ no_cell at ∷ no_lib of ∷ no_cell of ∷ no_new_inst contents inst (is_later at.lib of.lib) cyclic;
  reply = Done;
  edits = option_map_or (λ c. set_insts at contents (with_inst inst c)) of.cell [];
}

abbrev pub add_inst_of : CellName → List ℕ → CellName → Design → Rule
add_inst_of cell inst of d = add_inst (named d cell) (holder (cell_named d of) (inside d cell)) (named d of) (is_cyclic d (cell_named d cell) (cell_named d of)) inst

-- it needs the two cells and, where both are found, the contents of the one, and those of the other and of all cells below it
abbrev pub add_inst_needs : CellName → CellName → Design → Object → Type 0
add_inst_needs cell of d o = IsForName d cell o ⊎ IsForName d of o ⊎ IsForPlacing d (cell_named d cell) (cell_named d of) o
