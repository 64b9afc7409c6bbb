use Rattle.std.proofs.Common.{map}
use Rattle.ask_names.proofs.IndexLemmas.{AreRows}
use Rattle.ask_names.proofs.index.Index.of.Given as goal

abbrev pub invariant-loop-lib : goal.invariant-loop-lib
invariant-loop-lib g l = AreRows (g.S.Shown.design l.design) l.lib (map (λ row. row.items) l.cells.items)
