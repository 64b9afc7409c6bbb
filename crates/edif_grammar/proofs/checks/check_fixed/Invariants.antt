use Rattle.std.proofs.Common.{◌≡◌, ℕ, ◌<◌, List, Some, map}
use Rattle.std.specs.Prelude.{slice_get}
use Rattle.edif_spelling_spec.specs.Tree.{Placed}
use Rattle.edif_spec.specs.Keyword.{Choice}
use Rattle.edif_spec.specs.Faults.{token_kind}
use Rattle.edif_tree.specs.Handles.{all}
use Rattle.edif_grammar.specs.Rules.{choices, row_of}
use Rattle.edif_grammar.specs.Checks.{ArgumentFits}
use Rattle.edif_grammar.proofs.checks.check_fixed.Given as goal

-- those before this one fit
abbrev pub invariant-loop-i : goal.invariant-loop-i
invariant-loop-i l = (j : ℕ) (c : List Choice) (t : Placed) → j < l.i → slice_get (map choices l.wanted) j ≡ Some c → slice_get (all l.nodes) j ≡ Some t → ArgumentFits (token_kind l.keyword) (row_of l.rule) c t
