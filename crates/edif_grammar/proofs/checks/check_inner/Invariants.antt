use Rattle.std.proofs.Common.{◌≡◌, true, map}
use Rattle.std.specs.List.{AllByRecursion}
use Rattle.edif_spelling_spec.specs.Tree.{bare}
use Rattle.edif_spec.specs.Rows.{is_follower}
use Rattle.edif_spec.specs.Faults.{FollowerFault, misplaced}
use Rattle.edif_spec.specs.declared.fault.Kind.TheVariants.{BadForm}
use Rattle.edif_spec.specs.declared.fault.MeaningFault.{MeaningFault}
use Rattle.edif_tree.specs.Handles.{all}
use Rattle.edif_tree.specs.Eaches.{left}
use Rattle.edif_grammar.specs.Rules.{follower, row_of}
use Rattle.edif_grammar.proofs.checks.check_inner.Given as goal

-- those that are left decide
abbrev pub invariant-loop-node : goal.invariant-loop-node
invariant-loop-node l =
    (goal.iterator-loop-node).can_next l.node-iterator ×
    (goal.iterator-loop-node).is_finite l.node-iterator ×
    (AllByRecursion (λ t. is_follower (map follower l.allowed) (bare t) ≡ true) (left l.node-iterator) → AllByRecursion (λ t. is_follower (map follower l.allowed) (bare t) ≡ true) (all l.fn.nodes)) ×
    ((f : MeaningFault) → FollowerFault (misplaced BadForm (row_of l.rule)) (map follower l.allowed) (left l.node-iterator) f → FollowerFault (misplaced BadForm (row_of l.rule)) (map follower l.allowed) (all l.fn.nodes) f)
