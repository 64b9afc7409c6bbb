-- The occurrences that were come to.
use Rattle.std.specs.Prelude.{◌≡◌, ◌<◌, ◌≤◌, ◌++◌, ℕ, true, List, [], ◌∷◌, Option, Some, None, is_some, length, slice_get}
use Rattle.std.specs.BTreeMap.{get}
use Rattle.netlist_schema.specs.Design.{Design}
use Rattle.netlist_schema.specs.Order.{cell_cmp}
use Rattle.netlist_schema.specs.Types.{CellId}
use Rattle.netlist_schema.specs.declared.limits.TheConstants.{MOST_CELLS}
use Rattle.flat_spec.specs.Occurrences.{Occurrence}
use Rattle.uniquify_spec.specs.Blocks.{is_block}
use Rattle.uniquify_spec.specs.Copies.{copy_after}
use Rattle.uniquify_copies.specs.Drafts.{IsDraft, made_for}
use Rattle.uniquify_copies.specs.declared.spot.Step.{Step}
use Rattle.uniquify_blocks.specs.Kids.{kids_of}
use Rattle.uniquify_op.specs.Frames.{row_at}
use Rattle.uniquify_op.specs.Marks.{came_before, marks_after}
use Rattle.uniquify_op.specs.declared.met.Met.{Met}
use Rattle.uniquify_op.specs.declared.visits.Visits.{Visits}

-- the cells of these occurrences were met, and their rows are of their blocks
pub record AreMet (d : Design) (seen : List Occurrence) (met : Met) : Type 0 where
  pub known : (id : CellId) → is_some (get cell_cmp met.places id) ≡ came_before seen id
  pub within : (id : CellId) (place : ℕ) → get cell_cmp met.places id ≡ Some place → place < length met.rows.items
  pub rows : (id : CellId) (place : ℕ) → get cell_cmp met.places id ≡ Some place → row_at met.rows.items place ≡ kids_of d id
  pub blocks : (place k : ℕ) (step : Step) → slice_get (row_at met.rows.items place) k ≡ Some step → is_block d step.of ≡ true

-- these occurrences are on the list, and their cells were met
pub record IsVisited (d : Design) (top : CellId) (seen : List Occurrence) (visits : Visits) : Type 0 where
  pub draft : IsDraft d top (marks_after [] seen) visits.draft
  pub met : AreMet d seen visits.met

-- one more is on the list, and its blocks are in a row; the rows go on
pub record IsPutAt (d : Design) (top : CellId) (seen : List Occurrence) (at : Occurrence) (old new : Visits) (row : ℕ) : Type 0 where
  pub visited : IsVisited d top (seen ++ at ∷ []) new
  pub more : List (List Step)
  pub rows : new.met.rows.items ≡ old.met.rows.items ++ more
  pub within : row < length new.met.rows.items
  pub kids : row_at new.met.rows.items row ≡ kids_of d at.cell

-- or there is no room for its copy
abbrev pub IsPut : Design → CellId → List Occurrence → Occurrence → Visits → Visits → Option ℕ → Type 0
IsPut d top seen at old new (Some row) = IsPutAt d top seen at old new row
IsPut d top seen at old new None = (came_before seen at.cell ≡ true) × (MOST_CELLS ≤ (copy_after d (made_for d (marks_after [] seen)) at).id.slot)
