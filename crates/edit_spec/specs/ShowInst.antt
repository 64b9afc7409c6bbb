-- Showing an instance: its cell and its own properties.
use Rattle.std.specs.Prelude.{ℕ, List, [], ◌∷◌, Option, Some, option_and_then}
use Rattle.netlist_schema.specs.Design.{Design, insts_in}
use Rattle.netlist_schema.specs.Types.{Contents, Inst, Object}
use Rattle.edit_rules_spec.specs.Find.{inst_named}
use Rattle.edit_rules_spec.specs.Objects.{cell_name_at}
use Rattle.edit_rules_spec.specs.Reading.{IsForCell}
use Rattle.edit_rules_spec.specs.Rule.{Rule, no_lib, no_cell, no_inst}
use Rattle.edit_rules_spec.specs.Seen.{Named, named, inside, placed}
use Rattle.edit_rules_spec.specs.declared.reply.CellName.{CellName}
use Rattle.edit_rules_spec.specs.declared.reply.Reply.{Reply}
use Rattle.edit_rules_spec.specs.declared.reply.Reply.TheVariants.{Inst as ShownInst, NoInst}

-- an instance by its cell's name and its own properties
abbrev pub inst_shown : Option Inst → Option CellName → Reply
inst_shown (Some inst) (Some of) = ShownInst of inst.properties
inst_shown inst of = NoInst

abbrev pub show_inst : Named → Option Contents → Option CellName → List ℕ → Rule
show_inst at contents of inst = record {
  refusals = no_lib at ∷ no_cell at ∷ no_inst contents inst ∷ [];
  reply = inst_shown (inst_named inst (insts_in contents)) of;
  edits = [];
}

-- the name of the cell of the instance with this name
abbrev pub inst_cell_name : Design → CellName → List ℕ → Option CellName
inst_cell_name d cell inst = option_and_then (λ i. cell_name_at d i.of) (placed d cell inst)

abbrev pub show_inst_of : CellName → List ℕ → Design → Rule
show_inst_of cell inst d = show_inst (named d cell) (inside d cell) (inst_cell_name d cell inst) inst

-- it needs the cell and its contents: the name of the cell that is replied never changes
abbrev pub show_inst_needs : CellName → Design → Object → Type 0
show_inst_needs cell d o = IsForCell d cell o
