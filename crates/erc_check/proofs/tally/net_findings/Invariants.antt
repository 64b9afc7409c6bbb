use Rattle.std.proofs.Common.{◌≡◌}
use Rattle.std.specs.List.{flat_map}
use Rattle.erc_check.specs.Firsts.{first_found}
use Rattle.erc_check.proofs.tally.net_findings.Given as goal

-- what is found of the first nets so far
abbrev pub invariant-loop-first : goal.invariant-loop-first
invariant-loop-first l = l.found.items ≡ flat_map first_found l.yielded
