-- The blocks that stand in a cell.
use Rattle.std.specs.Prelude.{ℕ, List, filter, map}
use Rattle.std.specs.List.{enumerate_from}
use Rattle.netlist_schema.specs.Design.{Design}
use Rattle.netlist_schema.specs.Hierarchy.{insts_at}
use Rattle.netlist_schema.specs.Types.{CellId, Inst}
use Rattle.uniquify_spec.specs.Blocks.{is_block}
use Rattle.uniquify_copies.specs.declared.spot.Step.{Step}

-- an instance as a step, with its place
abbrev pub step_of : ℕ × Inst → Step
step_of (i, inst) = record { place = i; of = inst.of }

abbrev pub steps_of : List Inst → List Step
steps_of insts = map step_of (enumerate_from 0 insts)

-- the instances of a cell that are of blocks, in order
abbrev pub kids_of : Design → CellId → List Step
kids_of d id = filter (λ step. is_block d step.of) (steps_of (insts_at d id))
