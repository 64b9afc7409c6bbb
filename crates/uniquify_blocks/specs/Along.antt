-- A path of identifiers, step by step.
use Rattle.std.specs.Prelude.{◌≡◌, ◌⊎◌, ◌++◌, ℕ, true, false, cond, List, [], ◌∷◌, Option, Some, None, slice_get}
use Rattle.std.specs.List.{Contains}
use Rattle.netlist_schema.specs.Design.{Design}
use Rattle.netlist_schema.specs.Types.{CellId, Inst, Object}
use Rattle.netlist_schema.specs.Hierarchy.{insts_at}
use Rattle.edit_rules_spec.specs.Find.{inst_place}
use Rattle.edit_rules_spec.specs.Paths.{resolves}
use Rattle.flat_spec.specs.Occurrences.{Occurrence}
use Rattle.uniquify_spec.specs.Blocks.{blocks, is_block, steps_along}
use Rattle.uniquify_spec.specs.Parts.{IsPartOf}
use Rattle.edit_cells.specs.State.{State, HasRead}
use Rattle.uniquify_blocks.specs.ForBlocks.{IsForBlock}
use Rattle.uniquify_copies.specs.declared.spot.Step.{Step}

-- the instance with a name, by its place and its cell, or none
abbrev pub IsStep : List Inst → List ℕ → Option Step → Type 0
IsStep insts name None = inst_place name insts ≡ None
IsStep insts name (Some step) = (inst : Inst) × (inst_place name insts ≡ Some step.place) × (slice_get insts step.place ≡ Some inst) × (inst.of ≡ step.of)

-- the occurrences at the ends of steps with these places and cells, each in the one before
abbrev pub chain : List ℕ → List Step → List Occurrence
chain path [] = []
chain path (step ∷ steps) = record { path = path ++ step.place ∷ []; cell = step.of } ∷ chain (path ++ step.place ∷ []) steps

-- what these occurrences read
abbrev pub IsForEach : Design → List Occurrence → Object → Type 0
IsForEach d os o = (at : Occurrence) × Contains os at × IsForBlock d at.cell o

-- the top and what stands at the ends of the steps of a path
abbrev pub IsOnPath : Design → CellId → List (List ℕ) → Object → Type 0
IsOnPath d top path o = IsPartOf top o ⊎ IsForEach d (steps_along d top path) o

-- one step was gone from a cell: to the cell of the instance with the name, which was read, and which is on the list of blocks
-- where it is one; or there is no such instance, and nothing was read
abbrev pub HasGone : State → State → CellId → List ℕ → List Step → List Step → Option CellId → Type 0
HasGone s u at name old new None = (inst_place name (insts_at s.design at) ≡ None) × (u ≡ s) × (new ≡ old)
HasGone s u at name old new (Some of) = (step : Step) × (step.of ≡ of) × IsStep (insts_at s.design at) name (Some step) × HasRead s u (IsForBlock s.design of)
    × (new ≡ old ++ cond (is_block s.design of) (step ∷ []) [])

-- the blocks at the ends of the steps of a path; none where the path does not lead to its end
abbrev pub ArePathBlocks : Design → CellId → List (List ℕ) → Option (List Step) → Type 0
ArePathBlocks d top path None = resolves d top path ≡ false
ArePathBlocks d top path (Some steps) = (resolves d top path ≡ true) × (blocks d (steps_along d top path) ≡ chain [] steps)
