use Rattle.std.proofs.Common.{drop}
use Rattle.flat_spec.specs.Paths.{at_path}
use Rattle.flat_spec.proofs.ListLemmas.{Member}
use Rattle.design_model.proofs.tree_nets.place_of.Given as goal

-- the net is among those that are left
abbrev pub invariant-loop-k : goal.invariant-loop-k
invariant-loop-k l = Member (drop l.k l.nets) (at_path l.path l.fn.net)
