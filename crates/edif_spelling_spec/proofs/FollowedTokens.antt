-- A tree fault that is not the end stands where it is, whatever tokens follow; and where the end is the fault, others follow.
use Rattle.std.proofs.Common.{◌≡◌, ℕ, List, ◌∷◌, ◌++◌, None, Some, ap, ◌∙◌, subst, append_assoc, inl, ⊎_elim}
use Rattle.edif_spelling_spec.specs.TreeFaults.{IsNamed, IsFaultyToken, TreeFault, tree_fault}
use Rattle.edif_spelling_spec.specs.declared.token.Token.{Token}
use Rattle.edif_spelling_spec.specs.declared.tree_fault.TreeKind.{TreeKind}
use Rattle.edif_spelling_spec.specs.declared.tree_fault.TreeKind.TheVariants.{Unended}
use Rattle.edif_spelling_spec.proofs.FirstTreeFault.{fault_stands}
use Rattle.edif_spelling_spec.proofs.OneTreeFault.{standing_is_fault}
use Rattle.edif_spelling_spec.proofs.TreeFaultLemmas.{none_of_tree}

token_follows : (ts more : List Token) (fault : TreeFault) → IsFaultyToken ts fault → IsFaultyToken (ts ++ more) fault
token_follows ts more fault t = record {
  before = t.before;
  token = t.token;
  after = t.after ++ more;
  parts = ap (λ x. x ++ more) t.parts ∙ append_assoc t.before (t.token ∷ t.after) more;
  goes_on = t.goes_on;
  stops = t.stops;
  named = t.named;
  place = t.place;
}

pub tree_fault_follows : (ts more : List Token) (end later : ℕ) (fault : TreeFault) → tree_fault ts end ≡ Some fault → (fault.kind ≡ Unended → ⊥) → tree_fault (ts ++ more) later ≡ Some fault
tree_fault_follows ts more end later fault f free = ⊎_elim
    (λ t. standing_is_fault (ts ++ more) later fault (inl (token_follows ts more fault t)))
    (λ e. absurd (free e.kind))
    (fault_stands ts end fault f)

pub tree_fault_mends : (ts : List Token) (end later : ℕ) (fault : TreeFault) → tree_fault ts end ≡ Some fault → fault.kind ≡ Unended → (more : List Token) × (tree_fault (ts ++ more) later ≡ None)
tree_fault_mends ts end later fault f u = ⊎_elim
    (λ t. let N : TreeKind → Type 0 = λ k. IsNamed k t.before t.token.kind in absurd (subst N u t.named))
    (λ e. (e.goes_on.0, none_of_tree (ts ++ e.goes_on.0) later e.goes_on.1.0 e.goes_on.1.1))
    (fault_stands ts end fault f)
