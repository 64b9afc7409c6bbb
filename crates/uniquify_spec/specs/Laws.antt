-- What the two operations keep, and what they make.
use Rattle.std.specs.Prelude.{◌≡◌, ◌≢◌, ◌≤◌, ◌<◌, ◌+◌, ◌^◌, ◌↔◌, ◌&&◌, ℕ, Bool, true, false, List, [], ◌∷◌, Some, None, IsTrue, filter, length}
use Rattle.std.specs.List.{Contains}
use Rattle.netlist_schema.specs.Design.{Design, cell_at, cells_in}
use Rattle.netlist_schema.specs.Hierarchy.{IsCell}
use Rattle.netlist_schema.specs.Types.{CellId, LibId, TopHead}
use Rattle.netlist_schema.specs.Valid.{IsValid}
use Rattle.netlist_schema.specs.declared.limits.TheConstants.{MOST_CELLS}
use Rattle.edit_rules_spec.specs.Frame.{Stepped}
use Rattle.edit_rules_spec.specs.Objects.{Grown}
use Rattle.edit_rules_spec.specs.Rule.{IsRefusal}
use Rattle.edit_rules_spec.specs.declared.reply.Reply.TheVariants.{Copies}
use Rattle.flat_spec.specs.Occurrences.{Occurrence, occurrences}
use Rattle.flat_spec.specs.Paths.{Reaches}
use Rattle.uniquify_spec.specs.Blocks.{is_block, blocks_below, is_first, each_block, along_path}
use Rattle.uniquify_spec.specs.Copies.{Copy, numbered, is_free, free_number, copies_in}
use Rattle.uniquify_spec.specs.Erased.{erased_flattening}
use Rattle.uniquify_spec.specs.Rows.{too_many_cells, below_top, uniquified, unique_along}

-- ---- the flattening stays, up to the names of blocks

abbrev pub UniquifyKeepsFlattening : Type 0
UniquifyKeepsFlattening = (d : Design) → IsValid d → erased_flattening (uniquified d).design ≡ erased_flattening d

abbrev pub UniquePathKeepsFlattening : Type 0
UniquePathKeepsFlattening = (d : Design) (path : List (List ℕ)) → IsValid d → erased_flattening (unique_along d path).design ≡ erased_flattening d

-- ---- places of cells

-- no two paths from the top lead to the cell
abbrev pub IsAtOnePath : Design → CellId → CellId → Type 0
IsAtOnePath d top id = (p q : List ℕ) → Reaches d top p id → Reaches d top q id → p ≡ q

-- the operation was not refused, and this is the top
pub record IsDoneBelow (d : Design) (top : TopHead) (done : Stepped) : Type 0 where
  pub valid : IsValid d
  pub has_top : d.top ≡ Some top
  pub not_refused : ¬ IsRefusal done.reply

-- after Uniquify each block is at one path
abbrev pub EachBlockIsAtOnePath : Type 0
EachBlockIsAtOnePath = (d : Design) (top : TopHead) → IsDoneBelow d top (uniquified d) → (id : CellId) → IsTrue (is_block (uniquified d).design id)
    → IsAtOnePath (uniquified d).design top.cell id

-- after UniquePath each cell that was not there before is at one path
abbrev pub EachCopyIsAtOnePath : Type 0
EachCopyIsAtOnePath = (d : Design) (path : List (List ℕ)) (top : TopHead) → IsDoneBelow d top (unique_along d path) → (id : CellId) → ¬ IsCell d id
    → IsAtOnePath (unique_along d path).design top.cell id

-- ---- growth

-- cells are added, and what is seen of a cell from outside stays
abbrev pub BothGrow : Type 0
BothGrow = (d : Design) (path : List (List ℕ)) → Grown d (uniquified d).design × Grown d (unique_along d path).design

-- ---- names

-- the number is from 1 on, its ending makes a free name, and the lesser ones do not
pub record IsLeastFree (names : List (List ℕ)) (id : List ℕ) (n : ℕ) : Type 0 where
  pub from_one : 1 ≤ n
  pub free : is_free names (numbered id n) ≡ true
  pub least : (m : ℕ) → 1 ≤ m → m < n → is_free names (numbered id m) ≡ false

-- a copy gets the least free number
abbrev pub CopiesGetLeastFree : Type 0
CopiesGetLeastFree = (names : List (List ℕ)) (id : List ℕ) → length names < 2 ^ 63 → IsLeastFree names id (free_number names id)

-- ---- which occurrences these are

-- the path has a step
abbrev pub has_step : List ℕ → Bool
has_step [] = false
has_step (i ∷ path) = true

-- in a valid design the blocks below the top are its occurrences that have a step and whose cell is a block, in path order
abbrev pub BlocksAreOccurrences : Type 0
BlocksAreOccurrences = (d : Design) (top : CellId) → IsValid d → blocks_below d top ≡ filter (λ o. has_step o.path && is_block d o.cell) (occurrences d top)

-- after Uniquify the path of the first occurrence of a block leads to its cell, and that of a later one to a cell that was not there
pub record IsOwned (d e : Design) (top : CellId) (o : Occurrence) : Type 0 where
  pub first : is_first (blocks_below d top) o ≡ true → Reaches e top o.path o.cell
  pub later : is_first (blocks_below d top) o ≡ false → (id : CellId) × Reaches e top o.path id × (¬ IsCell d id)

abbrev pub FirstsKeepTheirCells : Type 0
FirstsKeepTheirCells = (d : Design) (top : TopHead) → IsDoneBelow d top (uniquified d) → (o : Occurrence) → Contains (blocks_below d top.cell) o
    → IsOwned d (uniquified d).design top.cell o

-- a library would have more cells than it may
abbrev pub IsTooFull : Design → List Copy → Type 0
IsTooFull d copies = (lib : LibId) × (MOST_CELLS < length (cells_in d lib) + length (copies_in lib copies))

-- what is refused as too many is that
abbrev pub TooManyIsTooFull : Type 0
TooManyIsTooFull = (d : Design) (path : List (List ℕ)) → IsValid d
    → ((too_many_cells (below_top (each_block d) d).copies ≡ None → ⊥) ↔ IsTooFull d (below_top (each_block d) d).copies)
    × ((too_many_cells (below_top (along_path d path) d).copies ≡ None → ⊥) ↔ IsTooFull d (below_top (along_path d path) d).copies)

-- ---- originals

-- UniquePath leaves each cell but the top as it was
abbrev pub OriginalsStay : Type 0
OriginalsStay = (d : Design) (path : List (List ℕ)) (top : TopHead) → IsValid d → d.top ≡ Some top → (id : CellId) → IsCell d id → id ≢ top.cell
    → cell_at (unique_along d path).design id ≡ cell_at d id

-- ---- once more

-- after Uniquify the design is valid, and Uniquify once more makes no copy
pub record IsUnique (d : Design) : Type 0 where
  pub valid : IsValid (uniquified d).design
  pub again : (uniquified (uniquified d).design).reply ≡ Copies 0

abbrev pub OnceIsEnough : Type 0
OnceIsEnough = (d : Design) (top : TopHead) → IsDoneBelow d top (uniquified d) → IsUnique d
