use Rattle.netlist_schema.proofs.Lists.{same_test}
use Rattle.edif_spec.proofs.SameLemmas.{same_says, says_same}
use Rattle.edif_names.proofs.scope.is_same.Goals as goal

pub returns : goal.returns
returns c = same_test _ _ (λ h. says_same c.args.left.now c.args.right.now (c.same.ensures.0 h)) (λ h. c.same.ensures.1 (same_says c.args.left.now c.args.right.now h))
