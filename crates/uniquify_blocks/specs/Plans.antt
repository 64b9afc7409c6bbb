-- What is planned for a split of a design.
use Rattle.std.specs.Prelude.{◌≡◌, true, List, [], Option, Some, None, map, length}
use Rattle.netlist_schema.specs.Design.{Design}
use Rattle.netlist_schema.specs.Types.{CellId}
use Rattle.netlist_schema.specs.declared.limits.TheConstants.{MOST_CELLS}
use Rattle.edit_rules_spec.specs.declared.reply.Reply.{Reply}
use Rattle.edit_rules_spec.specs.declared.reply.Reply.TheVariants.{Copies, TooMany}
use Rattle.flat_spec.specs.Occurrences.{Occurrence}
use Rattle.uniquify_spec.specs.Copies.{copies_after}
use Rattle.uniquify_spec.specs.Rows.{too_many_cells}
use Rattle.uniquify_spec.specs.Split.{Split, split_edits}
use Rattle.edit_cells.specs.Change.{CanAllBeMade, HasMade, edits_of}
use Rattle.edit_cells.specs.State.{State}
use Rattle.uniquify_copies.specs.Drafts.{IsDraft, Marked, has_no_room}
use Rattle.uniquify_copies.specs.declared.draft.CopyDraft.{CopyDraft}
use Rattle.uniquify_blocks.specs.Along.{chain}
use Rattle.uniquify_copies.specs.declared.spot.Step.{Step}
use Rattle.uniquify_blocks.specs.declared.plan.SplitPlan.{SplitPlan}

-- all of these occurrences get copies
abbrev pub all_copied : List Occurrence → List Marked
all_copied os = map (λ o. record { at = o; copied = true }) os

-- the spots of the blocks along a path, or none where a library has no room for a copy
abbrev pub IsChainDraft : Design → CellId → List Step → Option CopyDraft → Type 0
IsChainDraft d top steps (Some draft) = IsDraft d top (all_copied (chain [] steps)) draft
IsChainDraft d top steps None = has_no_room (copies_after d [] (chain [] steps)) ≡ true

-- the change that makes a split, and the number of its copies
pub record IsPlan (d : Design) (s : Split) (plan : SplitPlan) : Type 0 where
  pub room : too_many_cells s.copies ≡ None
  pub edits : edits_of d plan.change ≡ split_edits d s
  pub can : CanAllBeMade d plan.change.cells
  pub count : plan.copies ≡ length s.copies

-- the same, or none where a library would be too large
abbrev pub IsPlanned : Design → Split → Option SplitPlan → Type 0
IsPlanned d s (Some plan) = IsPlan d s plan
IsPlanned d s None = too_many_cells s.copies ≡ Some (TooMany MOST_CELLS)

-- a plan was put in place, or the want of room is replied
abbrev pub IsPut : State → State → Option SplitPlan → Reply → Type 0
IsPut old new (Some plan) reply = (reply ≡ Copies plan.copies) × HasMade old new (edits_of old.design plan.change)
IsPut old new None reply = (reply ≡ TooMany MOST_CELLS) × (new ≡ old)
