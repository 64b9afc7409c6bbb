use Rattle.net_names.specs.Names.{AreOwnNames}
use Rattle.net_names.proofs.names.own_names.Given as goal

abbrev pub invariant-loop-net : goal.invariant-loop-net
invariant-loop-net l = AreOwnNames l.depth l.net l.names.items
