use Rattle.std.proofs.Common.{◌≡◌, drop, map}
use Rattle.edif_grammar.specs.Rules.{follower, follows}
use Rattle.edif_grammar.proofs.rules.may_follow.Given as goal

-- those that are left decide
abbrev pub invariant-loop-follower : goal.invariant-loop-follower
invariant-loop-follower l = follows (map follower (drop l.follower-index l.inner)) l.argument ≡ follows (map follower l.inner) l.argument
