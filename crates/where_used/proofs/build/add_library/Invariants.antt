use Rattle.used_spec.specs.Uses.{ids_of, placed_in_all}
use Rattle.where_used.specs.Index.{HasAdded}
use Rattle.where_used.proofs.build.add_library.Given as goal

-- those in the cells so far are added
abbrev pub invariant-loop-slot : goal.invariant-loop-slot
invariant-loop-slot g l = HasAdded l.fn.index.items l.index.items (placed_in_all (g.S.Shown.design l.design) (ids_of l.lib l.slot))
