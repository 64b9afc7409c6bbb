use Rattle.std.proofs.Common.{List}
use Rattle.std.specs.List.{All, Contains}
use Rattle.netlist_schema.specs.Types.{CellId}
use Rattle.par_classes.specs.Telling.{IsTelling, IsTold}
use Rattle.par_classes.proofs.ready.tell_some.Given as goal

abbrev pub invariant-loop : goal.invariant-loop
invariant-loop g l = (below : List CellId) → IsTelling (g.S.Shown.design l.design) below l.fn.telling.marks l.fn.telling.classes → All (Contains below) l.fn.pending
    → All (IsTold (g.S.Shown.design l.design) below) l.told.items
