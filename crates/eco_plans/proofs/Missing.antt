-- Operations on a cell that is not there.
use Rattle.std.proofs.Common.{◌≡◌, ◌↔◌, ℕ, List, [], ◌∷◌, length, Option, Some, None, refl, ◌∙◌}
use Rattle.std.specs.Option.{option_map_or}
use Rattle.std.specs.Prelude.{is_none}
use Rattle.netlist_schema.specs.Design.{insts_in, nets_in}
use Rattle.netlist_schema.specs.Types.{Object, Property}
use Rattle.edit_rules_spec.specs.Edit.{Edit}
use Rattle.edit_rules_spec.specs.Find.{cell_named}
use Rattle.edit_rules_spec.specs.Reading.{IsForCell, IsForName}
use Rattle.edit_rules_spec.specs.Rule.{first, no_cell, no_inst, no_lib, unless}
use Rattle.edit_rules_spec.specs.Seen.{inside, named, ports_seen}
use Rattle.edit_rules_spec.specs.declared.reply.CellName.{CellName}
use Rattle.edit_rules_spec.specs.declared.reply.Reply.{Reply}
use Rattle.edit_rules_spec.specs.declared.reply.Reply.TheVariants.{Cell, Done}
use Rattle.edit_spec.specs.Needs.{Needs}
use Rattle.edit_spec.specs.AddNet.{no_new_net, with_net}
use Rattle.edit_spec.specs.DropNet.{without_net}
use Rattle.edit_spec.specs.Inside.{no_net, set_insts, set_nets}
use Rattle.edit_spec.specs.Rows.{outcome}
use Rattle.edit_spec.specs.SetProp.{insts_with_property, nets_with_property}
use Rattle.edit_spec.specs.declared.ops.Op.{Op}
use Rattle.edit_spec.specs.declared.ops.Op.TheVariants.{AddNet, DropNet, SetProp, ShowCell}
use Rattle.edit_spec.specs.declared.ops.Target.TheVariants.{Inst as OfInst, Net as OfNet}
use Rattle.edit_cells.specs.State.{State, HasRead}
use Rattle.eco_reads.specs.Done.{IsDone}
use Rattle.eco_reads.proofs.Found.{refused_row}
use Rattle.eco_reads.proofs.Reading.{done_read, only_name}

module _ (s t : State) (name : CellName) (reply : Reply) (read : HasRead s t (IsForName s.design name))
    (missing : (cell_named s.design name ≡ None) × (first (no_lib (named s.design name) ∷ no_cell (named s.design name) ∷ []) ≡ Some reply)) where
  -- an operation that needs what its cell's name reads, and the cell's contents
  cell_missing : (op : Op) (rest : List (Option Reply)) (done : Reply) (edits : List Edit) → ((o : Object) → IsForCell s.design name o ↔ Needs s.design op o)
      → outcome s.design op ≡ unless (first (no_lib (named s.design name) ∷ no_cell (named s.design name) ∷ rest)) done edits → IsDone s t op reply
  cell_missing op rest done edits needs comes =
      done_read s t op reply (IsForName s.design name) read
      (λ o. let only = only_name s.design name o missing.0 in (λ n. (needs o).0 (only.0 n), λ x. only.1 ((needs o).1 x)))
      (comes ∙ refused_row s.design name rest reply done edits missing.1)

  pub show_cell_missing : IsDone s t (ShowCell name) reply
  show_cell_missing =
      cell_missing (ShowCell name) []
      (Cell (option_map_or length (ports_seen (named s.design name).face) 0) (length (insts_in (inside s.design name))) (length (nets_in (inside s.design name))) (is_none (inside s.design name)))
      [] (λ o. (λ x. x, λ x. x)) refl

  pub add_net_missing : (net : List ℕ) → IsDone s t (AddNet name net) reply
  add_net_missing net =
      cell_missing (AddNet name net) (no_new_net (inside s.design name) net) Done (set_nets (named s.design name) (inside s.design name) (with_net net)) (λ o. (λ x. x, λ x. x)) refl

  pub drop_net_missing : (net : List ℕ) → IsDone s t (DropNet name net) reply
  drop_net_missing net =
      cell_missing (DropNet name net) (no_net (inside s.design name) net ∷ []) Done (set_nets (named s.design name) (inside s.design name) (without_net net)) (λ o. (λ x. x, λ x. x)) refl

  pub of_inst_missing : (inst : List ℕ) (property : Property) → IsDone s t (SetProp name (OfInst inst) property) reply
  of_inst_missing inst property =
      cell_missing (SetProp name (OfInst inst) property) (no_inst (inside s.design name) inst ∷ []) Done (set_insts (named s.design name) (inside s.design name) (insts_with_property inst property))
      (λ o. (λ x. x, λ x. x)) refl

  pub of_net_missing : (net : List ℕ) (property : Property) → IsDone s t (SetProp name (OfNet net) property) reply
  of_net_missing net property =
      cell_missing (SetProp name (OfNet net) property) (no_net (inside s.design name) net ∷ []) Done (set_nets (named s.design name) (inside s.design name) (nets_with_property net property))
      (λ o. (λ x. x, λ x. x)) refl
