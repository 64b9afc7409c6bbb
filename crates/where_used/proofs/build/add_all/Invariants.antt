use Rattle.used_spec.specs.Uses.{placed_in_all}
use Rattle.where_used.specs.Index.{HasAdded}
use Rattle.where_used.proofs.Adding.{cells_upto}
use Rattle.where_used.proofs.build.add_all.Given as goal

-- those in the libraries so far are added
abbrev pub invariant-loop-lib : goal.invariant-loop-lib
invariant-loop-lib g l = HasAdded l.fn.index.items l.index.items (placed_in_all (g.S.Shown.design l.design) (cells_upto (g.S.Shown.design l.design) l.lib))
