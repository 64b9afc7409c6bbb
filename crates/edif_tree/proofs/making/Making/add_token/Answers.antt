use Rattle.std.proofs.Common.{rules, List, ℤ, ◌∷◌, ◌++◌, [], OnOk, subst}
use Rattle.std.specs.Int.{w64}
use Rattle.std.specs.Prelude.{FitsSigned}
use Rattle.std.proofs.lemmas.Int.{to_z-of_z}
use Rattle.edif_spelling_spec.specs.TreeFaults.{token_at}
use Rattle.edif_spelling_spec.specs.declared.token.Token.{Token}
use Rattle.edif_spelling_spec.specs.declared.token.TokenKind.TheVariants.{Integer}
use Rattle.edif_tree.specs.Making.{HasRead}
use Rattle.edif_tree.proofs.LentLemmas.{same_token}
use Rattle.edif_tree.proofs.making.Making.add_token.Goals as goal

pub returns-in-Integer-clause-ok : goal.returns-in-Integer-clause-ok
returns-in-Integer-clause-ok c =
    let fits : FitsSigned w64 c.in-Integer.value = search rules in
    let P : Token → Type 0 = λ t. OnOk c.add-in-Integer.result ((ts : List Token) → HasRead c.args.self.now ts → HasRead c.add-in-Integer.new.self (ts ++ t ∷ [])) in
    let Q : ℤ → Type 0 = λ v. P (token_at (Integer v) c.args.token.place) in
    subst P (same_token c.args.token (Integer c.in-Integer.value) c.in-Integer.is) (subst Q (to_z-of_z w64 c.in-Integer.value fits) c.add-in-Integer.ensures.ok)
