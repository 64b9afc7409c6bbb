use Rattle.std.proofs.Common.{◌≡◌, drop, map}
use Rattle.std.specs.List.{list_any}
use Rattle.edif_grammar.specs.Rules.{choices, one_fits}
use Rattle.edif_grammar.proofs.rules.is_wanted.Given as goal

-- those that are left decide
abbrev pub invariant-loop-wanted : goal.invariant-loop-wanted
invariant-loop-wanted l = list_any (λ c. one_fits c l.argument) (map choices (drop l.wanted-index l.fixed)) ≡ list_any (λ c. one_fits c l.argument) (map choices l.fixed)
