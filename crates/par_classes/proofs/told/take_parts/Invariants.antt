use Rattle.std.proofs.Common.{List}
use Rattle.std.specs.Prelude.{IfOk}
use Rattle.std.specs.List.{All}
use Rattle.netlist_schema.specs.Design.{Design}
use Rattle.netlist_schema.specs.Types.{CellId}
use Rattle.par_classes.specs.Telling.{IsTelling, IsTold}
use Rattle.par_classes.proofs.told.take_parts.Given as goal

abbrev pub invariant-loop-part : goal.invariant-loop-part
invariant-loop-part l = (d : Design) (below : List CellId) → IsTelling d below l.fn.telling.marks l.fn.telling.classes
    → All (λ part. IfOk part (λ told. All (IsTold d below) told.items)) l.yielded → IsTelling d below l.telling.marks l.telling.classes
