use Rattle.std.proofs.Common.{◌≡◌, ℕ, ◌<◌, Some, map}
use Rattle.std.specs.Prelude.{slice_get}
use Rattle.edif_spec.specs.Keyword.{Follower}
use Rattle.edif_tree.specs.Handles.{all}
use Rattle.edif_grammar.specs.Rules.{follower}
use Rattle.edif_grammar.specs.Checks.{OnceFits}
use Rattle.edif_grammar.proofs.checks.check_seconds.Given as goal

-- those before this one stand once at most
abbrev pub invariant-loop-inner : goal.invariant-loop-inner
invariant-loop-inner l = (j : ℕ) (a : Follower) → j < l.inner-index → slice_get (map follower l.allowed) j ≡ Some a → OnceFits a (all l.nodes)
