use Rattle.std.proofs.Common.{◌∷◌, ◌++◌, [], refl}
use Rattle.edif_spelling_spec.specs.Lent.{kind_of}
use Rattle.edif_spelling_spec.specs.TreeFaults.{token_at}
use Rattle.edif_tree.proofs.MakerLemmas.{starved}
use Rattle.edif_tree.proofs.tree_maker.TreeMaker.go_on.Goals as goal

pub invariant_of-self : goal.invariant_of-self
invariant_of-self c = λ going. (let h = c.self.invariant going in (h.0 ++ token_at (kind_of c.args.kind) c.args.place ∷ [], c.in-Ok.ensures.ok h.0 h.1))

pub returns-in-Err-NoMemory-clause-err : goal.returns-in-Err-NoMemory-clause-err
returns-in-Err-NoMemory-clause-err c = starved c.args.self.now _ refl
