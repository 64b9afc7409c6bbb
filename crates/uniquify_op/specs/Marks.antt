-- The blocks below a top, each marked whether it gets a copy.
use Rattle.std.specs.Prelude.{◌≡◌, Bool, true, List, [], ◌∷◌, ◌++◌, Option, Some, None}
use Rattle.std.specs.List.{list_any}
use Rattle.netlist_schema.specs.Design.{Design}
use Rattle.netlist_schema.specs.Types.{CellId}
use Rattle.edit_rules_spec.specs.Paths.{same_cell}
use Rattle.flat_spec.specs.Occurrences.{Occurrence}
use Rattle.uniquify_spec.specs.Blocks.{blocks_below}
use Rattle.uniquify_copies.specs.Drafts.{IsDraft, Marked, has_no_room, made_for}
use Rattle.uniquify_copies.specs.declared.draft.CopyDraft.{CopyDraft}

-- one of these occurrences is of the cell
abbrev pub came_before : List Occurrence → CellId → Bool
came_before before cell = list_any (λ other. same_cell other.cell cell) before

-- occurrences that come after others: each gets a copy where its cell came before it
abbrev pub marks_after : List Occurrence → List Occurrence → List Marked
marks_after before [] = []
marks_after before (o ∷ os) = record { at = o; copied = came_before before o.cell } ∷ marks_after (before ++ o ∷ []) os

-- the blocks below a top, in path order
abbrev pub marked : Design → CellId → List Marked
marked d top = marks_after [] (blocks_below d top)

-- all of them are on a draft; or none, where a library has no room for a copy
abbrev pub AreBlocksDrafted : Design → CellId → Option CopyDraft → Type 0
AreBlocksDrafted d top (Some draft) = IsDraft d top (marked d top) draft
AreBlocksDrafted d top None = has_no_room (made_for d (marked d top)) ≡ true
