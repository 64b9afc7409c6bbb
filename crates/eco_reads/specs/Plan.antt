-- What is found of a name, and what is planned for the contents of a cell.
use Rattle.std.specs.Prelude.{◌≡◌, ◌≤◌, List, [], ◌∷◌, Option, Some, None, Result, Ok, Err, IsSome, length}
use Rattle.netlist_schema.specs.Design.{Design, insts_in, nets_in}
use Rattle.netlist_schema.specs.Types.{CellId, Contents, Note}
use Rattle.netlist_schema.specs.Valid.{IsValid}
use Rattle.edit_rules_spec.specs.Edit.{edited}
use Rattle.edit_rules_spec.specs.Find.{cell_named}
use Rattle.edit_rules_spec.specs.Rule.{first, no_lib, no_cell}
use Rattle.edit_rules_spec.specs.Seen.{named}
use Rattle.edit_rules_spec.specs.declared.reply.CellName.{CellName}
use Rattle.edit_rules_spec.specs.declared.reply.Reply.{Reply}
use Rattle.edit_rules_spec.specs.declared.reply.Reply.TheVariants.{Done}
use Rattle.edit_cells.specs.Change.{CanAllBeMade, HasMade, edits_of, inst_put, net_put}
use Rattle.edit_cells.specs.State.{State}
use Rattle.edit_cells.specs.declared.change.Change.{Change}
use Rattle.edit_cells.specs.declared.change.CellChange.{CellChange}
use Rattle.edit_cells.specs.declared.change.CellChange.TheVariants.{Inner, Net as NetChange, Inst as InstChange}
use Rattle.eco_reads.specs.declared.plan.Plan.{Plan}
use Rattle.eco_reads.specs.declared.plan.Plan.TheVariants.{Whole, Net, Inst}

-- the cell with a name, or the refusal where there is none
abbrev pub IsNamed : Design → CellName → Result CellId Reply → Type 0
IsNamed d name (Ok id) = cell_named d name ≡ Some id
IsNamed d name (Err reply) = (cell_named d name ≡ None) × (first (no_lib (named d name) ∷ no_cell (named d name) ∷ []) ≡ Some reply)

-- the contents that a plan makes of the old ones
abbrev pub made_of : Plan → Option Contents → Contents
made_of (Whole contents) old = contents
made_of (Net place net) old = net_put place net old
made_of (Inst place inst) old = inst_put place inst old

-- its place is there, or is that behind the last
abbrev pub HasPlace : Plan → Option Contents → Type 0
HasPlace (Whole contents) old = Unit {0}
HasPlace (Net place net) old = place ≤ length (nets_in old)
HasPlace (Inst place inst) old = place ≤ length (insts_in old)

-- a plan that makes these contents of a cell that is no leaf, where nothing refuses them, or else the refusal
abbrev pub IsPlanned : Option Contents → Option Reply → Contents → Result Plan Reply → Type 0
IsPlanned old refusal new (Ok plan) = IsSome old × HasPlace plan old × (refusal ≡ None) × (made_of plan old ≡ new)
IsPlanned old refusal new (Err reply) = refusal ≡ Some reply

-- the plan as a change of a cell
abbrev pub change_of : CellId → Plan → CellChange
change_of id (Whole contents) = Inner id contents
change_of id (Net place net) = NetChange id place net
change_of id (Inst place inst) = InstChange id place inst

-- one change of a cell, with notes where they are given
abbrev pub one_change : CellChange → Option (List Note) → Change
one_change change notes = record { cells = change ∷ []; notes = notes }

abbrev pub only_notes : List Note → Change
only_notes notes = record { cells = []; notes = Some notes }

-- a change that can be made, and leaves a valid design
pub record IsGood (d : Design) (change : Change) : Type 0 where
  pub can : CanAllBeMade d change.cells
  pub valid : IsValid (edited d (edits_of d change))

-- a plan that can be put in place together with notes, where they are given
abbrev pub CanBePut : Design → CellId → Option (List Note) → Result Plan Reply → Type 0
CanBePut d id notes (Ok plan) = IsGood d (one_change (change_of id plan) notes)
CanBePut d id notes (Err reply) = Unit {0}

-- it was put in place; a refusal changes nothing
abbrev pub IsPut : State → State → CellId → Option (List Note) → Result Plan Reply → Reply → Type 0
IsPut old new id notes (Ok plan) reply = (reply ≡ Done) × HasMade old new (edits_of old.design (one_change (change_of id plan) notes))
IsPut old new id notes (Err refusal) reply = (reply ≡ refusal) × (new ≡ old)

-- the same for notes alone
abbrev pub AreNotesPlanned : Option Reply → List Note → Result (List Note) Reply → Type 0
AreNotesPlanned refusal new (Ok made) = (refusal ≡ None) × (made ≡ new)
AreNotesPlanned refusal new (Err reply) = refusal ≡ Some reply

abbrev pub CanNotesBePut : Design → Result (List Note) Reply → Type 0
CanNotesBePut d (Ok made) = IsGood d (only_notes made)
CanNotesBePut d (Err reply) = Unit {0}

abbrev pub AreNotesPut : State → State → Result (List Note) Reply → Reply → Type 0
AreNotesPut old new (Ok made) reply = (reply ≡ Done) × HasMade old new (edits_of old.design (only_notes made))
AreNotesPut old new (Err refusal) reply = (reply ≡ refusal) × (new ≡ old)
