-- What the two operations read and write, as sets of objects.
use Rattle.std.specs.Prelude.{◌≡◌, ◌⊎◌, ℕ, List, Option, Some, None, IsTrue, map}
use Rattle.std.specs.List.{Contains}
use Rattle.netlist_schema.specs.Design.{Design}
use Rattle.netlist_schema.specs.Hierarchy.{IsBelow}
use Rattle.netlist_schema.specs.Types.{CellId, Object, TopHead}
use Rattle.netlist_schema.specs.declared.ids.Object.TheVariants.{Directory}
use Rattle.edit_rules_spec.specs.Edit.{IsChanged}
use Rattle.edit_rules_spec.specs.Rule.{ruled}
use Rattle.uniquify_spec.specs.Blocks.{is_block, steps_along}
use Rattle.edit_rules_spec.specs.Objects.{contents_object}
use Rattle.uniquify_spec.specs.Parts.{IsPartOf}
use Rattle.uniquify_spec.specs.Rows.{uniquify_row, unique_path_row}

-- a part of a cell of the set, or the directory of a block of it
abbrev pub IsPartOfEach : (CellId → Type 0) → Object → Type 0
IsPartOfEach Cells o = (id : CellId) × Cells id × IsPartOf id o

abbrev pub IsDirectoryOfBlock : Design → (CellId → Type 0) → Object → Type 0
IsDirectoryOfBlock d Cells o = (id : CellId) × Cells id × IsTrue (is_block d id) × (o ≡ Directory id.lib)

-- the contents of the top; both parts of each cell below it; the directory of each block below it; nothing where there is no top
abbrev pub UniquifyNeedsBelow : Design → Option TopHead → Object → Type 0
UniquifyNeedsBelow d None o = ⊥
UniquifyNeedsBelow d (Some top) o =
    let Below : CellId → Type 0 = λ id. IsBelow d id top.cell in
    (o ≡ contents_object top.cell) ⊎ IsPartOfEach Below o ⊎ IsDirectoryOfBlock d Below o

abbrev pub UniquifyNeeds : Design → Object → Type 0
UniquifyNeeds d o = UniquifyNeedsBelow d d.top o

-- both parts of the top and of each cell at the end of a step, as far as the path leads; the directory of each block at the end
-- of a step; nothing where there is no top
abbrev pub UniquePathNeedsBelow : Design → Option TopHead → List (List ℕ) → Object → Type 0
UniquePathNeedsBelow d None path o = ⊥
UniquePathNeedsBelow d (Some top) path o =
    let AtStep : CellId → Type 0 = λ id. Contains (map (λ step. step.cell) (steps_along d top.cell path)) id in
    IsPartOf top.cell o ⊎ IsPartOfEach AtStep o ⊎ IsDirectoryOfBlock d AtStep o

abbrev pub UniquePathNeeds : Design → List (List ℕ) → Object → Type 0
UniquePathNeeds d path o = UniquePathNeedsBelow d d.top path o

-- what is written: the directories and both parts of the copies, and the contents of the cells in which an instance is turned
abbrev pub UniquifyWrites : Design → Object → Type 0
UniquifyWrites d o = IsChanged (ruled (uniquify_row d)).edits o

abbrev pub UniquePathWrites : Design → List (List ℕ) → Object → Type 0
UniquePathWrites d path o = IsChanged (ruled (unique_path_row d path)).edits o
