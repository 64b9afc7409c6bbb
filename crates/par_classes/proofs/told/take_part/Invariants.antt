use Rattle.std.proofs.Common.{List}
use Rattle.std.specs.List.{All}
use Rattle.netlist_schema.specs.Design.{Design}
use Rattle.netlist_schema.specs.Types.{CellId}
use Rattle.par_classes.specs.Telling.{IsTelling, IsTold}
use Rattle.par_classes.proofs.told.take_part.Given as goal

abbrev pub invariant-loop-told : goal.invariant-loop-told
invariant-loop-told l = (d : Design) (below : List CellId) → IsTelling d below l.fn.telling.marks l.fn.telling.classes → All (IsTold d below) l.yielded
    → IsTelling d below l.telling.marks l.telling.classes
