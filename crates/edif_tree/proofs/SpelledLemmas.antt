-- The keyword that stands at a node.
use Rattle.std.proofs.Common.{◌≡◌, true, List, [], ◌∷◌, Option, None, Some, refl, sym, ap, ◌∙◌}
use Rattle.std.specs.Prelude.{slice_get, option_map}
use Rattle.edif_spelling_spec.specs.Tree.{Placed, Form', trees}
use Rattle.edif_spec.specs.declared.keyword.Keyword.{Keyword}
use Rattle.edif_tree.specs.Handles.{Shows}
use Rattle.edif_tree.specs.Here.{tree_at}
use Rattle.edif_tree.specs.Keywords.{form_keyword, seen_keyword, word_keyword}
use Rattle.edif_tree.specs.Nodes.{Seen, FormOf, WordOf, IntegerOf, StringOf, NodeRow, place_of}
use Rattle.edif_tree.specs.Order.{is_node}
use Rattle.edif_tree.specs.declared.node.Nodes.{Nodes}
use Rattle.edif_tree.specs.declared.node.Shape.{Shape}
use Rattle.edif_tree.specs.declared.node.Shape.TheVariants as shapes
use Rattle.edif_tree.specs.declared.stored.NodeId.{NodeId}
use Rattle.edif_tree.proofs.HereLemmas.{SeenIs, shown, some_at, within}

-- what is seen at a node says which keyword its tree spells
seen_spells : (rows : List NodeRow) (t : Placed) (s : Seen) → SeenIs rows s t → seen_keyword s ≡ word_keyword t
seen_spells rows t (FormOf ids) w = sym (ap word_keyword w.1)
seen_spells rows t (WordOf name) w = sym (ap word_keyword w)
seen_spells rows t (IntegerOf value) w = sym (ap word_keyword w)
seen_spells rows t (StringOf value) w = sym (ap word_keyword w)

pub spelled_shown : (rows : List NodeRow) (id : NodeId) (k : Option Keyword) → is_node rows id ≡ true → option_map (λ (r : NodeRow). seen_keyword r.shape) (slice_get rows id.0) ≡ Some k → k ≡ word_keyword (tree_at rows id)
spelled_shown rows id k h e =
    let found = some_at rows id.0 (within rows id h) in
    let both = sym (ap (option_map (λ (r : NodeRow). seen_keyword r.shape)) found.1) ∙ e in
    let same : seen_keyword found.0.shape ≡ k = cc both in
    sym same ∙ seen_spells rows (tree_at rows id) found.0.shape (shown rows id found.0.shape h (ap (option_map (λ (r : NodeRow). r.shape)) found.1))

-- a form has the keyword of its first argument; one of none has none, and a token has none
pub first_spelled : (t u : Placed) (us vs : List Placed) → t ≡ Form' (place_of t) (trees us) → us ≡ u ∷ vs → word_keyword u ≡ form_keyword t
first_spelled t u us vs e f = sym (ap form_keyword (e ∙ ap (λ v. Form' (place_of t) (trees v)) f))

pub no_arguments : (t : Placed) (us : List Placed) → t ≡ Form' (place_of t) (trees us) → us ≡ [] → form_keyword t ≡ None
no_arguments t us e f = ap form_keyword (e ∙ ap (λ v. Form' (place_of t) (trees v)) f)

pub no_form : (s : Shape) (t : Placed) → Shows s t → ((nodes : Nodes) → s ≡ shapes.Form nodes → ⊥) → form_keyword t ≡ None
no_form (shapes.Form nodes) t w n = absurd (n nodes refl)
no_form (shapes.Word name) t w n = ap form_keyword w
no_form (shapes.Integer z) t w n = ap form_keyword w
no_form (shapes.String s) t w n = ap form_keyword w
