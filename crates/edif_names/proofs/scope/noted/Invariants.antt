use Rattle.std.proofs.Common.{◌≡◌}
use Rattle.edif_names.specs.Folded.{noted, noted_from}
use Rattle.edif_names.specs.Scope.{numbered}
use Rattle.edif_names.proofs.scope.noted.Given as goal

-- the names that are left decide
abbrev pub invariant-loop-other : goal.invariant-loop-other
invariant-loop-other l = noted_from l.first l.name (numbered l.other-iterator) ≡ noted l.name (numbered l.exact.entries)
