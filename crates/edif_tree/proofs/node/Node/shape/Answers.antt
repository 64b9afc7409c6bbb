use Rattle.std.proofs.Common.{◌≡◌, ℤ, sym, subst, rules}
use Rattle.std.specs.Prelude.{FitsSigned}
use Rattle.std.specs.Int.{w64}
use Rattle.std.proofs.lemmas.Int.{to_z-of_z}
use Rattle.edif_spelling_spec.specs.Tree.{Integer'}
use Rattle.edif_tree.specs.Nodes.{FormOf, WordOf, IntegerOf, StringOf, place_of}
use Rattle.edif_tree.specs.Handles.{here}
use Rattle.edif_tree.specs.Ranges.{ids_of}
use Rattle.edif_tree.proofs.HereLemmas.{shown, within}
use Rattle.edif_tree.proofs.node.Node.shape.Goals as goal

pub shape-requires : goal.shape-requires
shape-requires c = within c.args.self.tree.now.rows c.args.self.id c.args.self.stands

pub invariant_of-result : goal.invariant_of-result
invariant_of-result c = record { stand = (shown c.args.self.tree.now.rows c.args.self.id (FormOf (ids_of c.in-Form.ids)) c.args.self.stands c.in-Form.ensures).0 }

pub returns-in-Form : goal.returns-in-Form
returns-in-Form c = (shown c.args.self.tree.now.rows c.args.self.id (FormOf (ids_of c.in-Form.ids)) c.args.self.stands c.in-Form.ensures).1

pub returns-in-Word : goal.returns-in-Word
returns-in-Word c = shown c.args.self.tree.now.rows c.args.self.id (WordOf c.in-Word.name.now) c.args.self.stands c.in-Word.ensures

pub returns-in-Integer : goal.returns-in-Integer
returns-in-Integer c =
    let fits : FitsSigned w64 c.in-Integer.value = search rules in
    let P : ℤ → Type 0 = λ v. here c.args.self ≡ Integer' (place_of (here c.args.self)) v in
    subst P (sym (to_z-of_z w64 c.in-Integer.value fits)) (shown c.args.self.tree.now.rows c.args.self.id (IntegerOf c.in-Integer.value) c.args.self.stands c.in-Integer.ensures)

pub returns-in-String : goal.returns-in-String
returns-in-String c = shown c.args.self.tree.now.rows c.args.self.id (StringOf c.in-String.text.now) c.args.self.stands c.in-String.ensures
