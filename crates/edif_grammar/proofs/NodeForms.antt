-- What a form begins with, from what is lent of it.
use Rattle.std.proofs.Common.{◌≡◌, ℕ, Bor, List, [], ◌∷◌, refl, sym, ap, ◌∙◌, Some, None}
use Rattle.edif_spelling_spec.specs.Tree.{Placed, Form', Word', Integer', String', More, bare, trees}
use Rattle.edif_spec.specs.Faults.{arguments}
use Rattle.edif_spec.proofs.FaultExamples.{items_of}
use Rattle.edif_tree.specs.Nodes.{place_of}
use Rattle.edif_tree.specs.Handles.{Shows}
use Rattle.edif_tree.specs.declared.node.Nodes.{Nodes}
use Rattle.edif_tree.specs.declared.node.Shape.{Shape}
use Rattle.edif_tree.specs.declared.node.Shape.TheVariants as shapes
use Rattle.edif_tree.specs.Keywords.{form_keyword}
use Rattle.edif_grammar.specs.Rules.{first_word, argument_of, with_keyword}
use Rattle.edif_grammar.specs.declared.rules.Argument.TheVariants as arguments

-- what begins with this tree
begins : (t u : Placed) (us vs : List Placed) → t ≡ Form' (place_of t) (trees us) → us ≡ u ∷ vs → t ≡ Form' (place_of t) (More u (trees vs))
begins t u us vs e f = e ∙ ap (λ v. Form' (place_of t) (trees v)) f

-- a form whose first argument is lent as a word
pub opens : (t u : Placed) (us vs : List Placed) (name : List ℕ) → t ≡ Form' (place_of t) (trees us) → us ≡ u ∷ vs → u ≡ Word' (place_of u) name → (first_word (bare t) ≡ Some name) × (vs ≡ arguments t)
opens t u us vs name e f w =
    let whole : t ≡ Form' (place_of t) (More (Word' (place_of u) name) (trees vs)) = begins t u us vs e f ∙ ap (λ v. Form' (place_of t) (More v (trees vs))) w in
    (ap (λ v. first_word (bare v)) whole, sym (ap (λ v. arguments v) whole ∙ items_of vs))

-- a form of no arguments
pub opens_empty : (t : Placed) (us : List Placed) → t ≡ Form' (place_of t) (trees us) → us ≡ [] → first_word (bare t) ≡ None
opens_empty t us e f = ap (λ v. first_word (bare v)) (e ∙ ap (λ v. Form' (place_of t) (trees v)) f)

-- a form whose first argument is lent as something else
pub opens_otherwise : (s : Shape) (t u : Placed) (us vs : List Placed) → t ≡ Form' (place_of t) (trees us) → us ≡ u ∷ vs → Shows s u → ((name : Bor (List ℕ)) → s ≡ shapes.Word name → ⊥) → first_word (bare t) ≡ None
opens_otherwise (shapes.Word name) t u us vs e f w n = absurd (n name refl)
opens_otherwise (shapes.Form nodes) t u us vs e f w n = ap (λ v. first_word (bare v)) (begins t u us vs e f ∙ ap (λ v. Form' (place_of t) (More v (trees vs))) w)
opens_otherwise (shapes.Integer z) t u us vs e f w n = ap (λ v. first_word (bare v)) (begins t u us vs e f ∙ ap (λ v. Form' (place_of t) (More v (trees vs))) w)
opens_otherwise (shapes.String s) t u us vs e f w n = ap (λ v. first_word (bare v)) (begins t u us vs e f ∙ ap (λ v. Form' (place_of t) (More v (trees vs))) w)

-- a token
pub opens_none : (s : Shape) (t : Placed) → Shows s t → ((nodes : Nodes) → s ≡ shapes.Form nodes → ⊥) → first_word (bare t) ≡ None
opens_none (shapes.Form nodes) t w n = absurd (n nodes refl)
opens_none (shapes.Word name) t w n = ap (λ v. first_word (bare v)) w
opens_none (shapes.Integer z) t w n = ap (λ v. first_word (bare v)) w
opens_none (shapes.String s) t w n = ap (λ v. first_word (bare v)) w

-- a form that begins with no word is strange
pub strange : (t : Placed) (us : List Placed) → t ≡ Form' (place_of t) (trees us) → first_word (bare t) ≡ None → argument_of (bare t) ≡ arguments.Strange
strange t us e n = ap (λ v. argument_of (bare v)) e ∙ go us (sym (ap (λ v. first_word (bare v)) e) ∙ n)
  where
    go : (us : List Placed) → first_word (bare (Form' (place_of t) (trees us))) ≡ None → argument_of (bare (Form' (place_of t) (trees us))) ≡ arguments.Strange
    go [] n = refl
    go (Word' q x ∷ us) n = absurd (cc n)
    go (Form' q ts ∷ us) n = refl
    go (Integer' q z ∷ us) n = refl
    go (String' q s ∷ us) n = refl

-- a form, by its keyword
pub keyword_told : (t : Placed) (us : List Placed) → t ≡ Form' (place_of t) (trees us) → argument_of (bare t) ≡ with_keyword (form_keyword t)
keyword_told t us e = ap (λ v. argument_of (bare v)) e ∙ go us ∙ ap (λ v. with_keyword (form_keyword v)) (sym e)
  where
    go : (us : List Placed) → argument_of (bare (Form' (place_of t) (trees us))) ≡ with_keyword (form_keyword (Form' (place_of t) (trees us)))
    go [] = refl
    go (Word' q x ∷ us) = refl
    go (Form' q ts ∷ us) = refl
    go (Integer' q z ∷ us) = refl
    go (String' q s ∷ us) = refl
