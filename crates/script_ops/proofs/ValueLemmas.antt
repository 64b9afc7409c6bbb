-- A value by its first word.
use Rattle.std.proofs.Common.{◌≡◌, ◌≢◌, ◌∙◌, List, ℕ, [], ◌∷◌, None, Some, Ok, Err, true, false, refl, sym, ap, subst}
use Rattle.std.specs.Prelude.{Option, Result, if◌then◌else◌}
use Rattle.netlist_schema.specs.Types.{Value}
use Rattle.netlist_schema.specs.declared.property.Num.TheVariants as numbers
use Rattle.netlist_schema.specs.declared.property.Value.TheVariants as values
use Rattle.edif_spec.specs.Means.{equal}
use Rattle.edif_spelling_spec.specs.Grammar.{SpellsString}
use Rattle.script_spec.specs.Lines.{value_pieces}
use Rattle.script_spec.specs.Pieces.{Alone, Quoted, SpellPieces}
use Rattle.script_words.specs.Reading.{Reads}
use Rattle.script_ops.specs.Values.{kind_of, kind_word, ReadsValue, value_rest}
use Rattle.script_words.specs.declared.unread.Unread.{Unread}
use Rattle.script_ops.specs.declared.values.Kind.{Kind}
use Rattle.script_ops.specs.declared.values.Kind.TheVariants.{True, False, Int, Num, Str}
use Rattle.script_ops.proofs.FrontLemmas.{of_one}

abbrev first_of : List ℕ → List Kind → Option Kind
first_of word [] = None
first_of word (k ∷ ks) = if equal word (kind_word k) then Some k else first_of word ks

abbrev all_kinds : List Kind
all_kinds = True ∷ False ∷ Int ∷ Num ∷ Str ∷ []

itself : (k : Kind) → first_of (kind_word k) all_kinds ≡ Some k
itself True = refl
itself False = refl
itself Int = refl
itself Num = refl
itself Str = refl

one_kind : (a b : Kind) → kind_word a ≡ kind_word b → a ≡ b
one_kind a b e = let same : Some a ≡ Some b = sym (itself a) ∙ ap (λ w. first_of w all_kinds) e ∙ itself b in cc (same)

value_parts : (word : List ℕ) (others : List (List ℕ)) (v : Value) → SpellPieces (word ∷ others) (value_pieces v) → (word ≡ kind_word (kind_of v)) × SpellPieces others (value_rest v)
value_parts word others (values.Boolean true) s = s
value_parts word others (values.Boolean false) s = s
value_parts word others (values.Integer z) s = s
value_parts word others (values.Number (numbers.Int z)) s = s
value_parts word others (values.Number (numbers.Scaled m x)) s = s
value_parts word others (values.Text text) s = s

value_from : (word : List ℕ) (others : List (List ℕ)) (v : Value) → word ≡ kind_word (kind_of v) → SpellPieces others (value_rest v) → SpellPieces (word ∷ others) (value_pieces v)
value_from word others (values.Boolean true) e s = (e, s)
value_from word others (values.Boolean false) e s = (e, s)
value_from word others (values.Integer z) e s = (e, s)
value_from word others (values.Number (numbers.Int z)) e s = (e, s)
value_from word others (values.Number (numbers.Scaled m x)) e s = (e, s)
value_from word others (values.Text text) e s = (e, s)

pub no_kind : (words : List (List ℕ)) (word : List ℕ) (others : List (List ℕ)) → words ≡ word ∷ others → ((k : Kind) → word ≢ kind_word k) → (v : Value) → ¬ SpellPieces words (value_pieces v)
no_kind words word others e n v s = n (kind_of v) (value_parts word others v (subst (λ (ws : List (List ℕ)). SpellPieces ws (value_pieces v)) e s)).0

pub value_read : (words : List (List ℕ)) (word : List ℕ) (others : List (List ℕ)) (k : Kind) (r : Result Value Unread) → words ≡ word ∷ others → word ≡ kind_word k → ReadsValue k others r
    → Reads (λ (v : Value). SpellPieces words (value_pieces v)) r
value_read words word others k (Ok v) e w i =
    subst (λ (ws : List (List ℕ)). SpellPieces ws (value_pieces v)) (sym e) (value_from word others v (w ∙ ap kind_word (sym i.0)) i.1)
value_read words word others k (Err x) e w n = λ b v s.
    let parts = value_parts word others v (subst (λ (ws : List (List ℕ)). SpellPieces ws (value_pieces v)) e s) in
    n b v (one_kind (kind_of v) k (sym parts.0 ∙ w)) parts.1

pub no_text : (k : Kind) (words : List (List ℕ)) (word : List ℕ) → k ≡ Str → words ≡ word ∷ [] → ((text : List ℕ) → ¬ SpellsString word text) → (v : Value) → kind_of v ≡ k
    → ¬ SpellPieces words (value_rest v)
no_text k words word is e n (values.Text text) q s = n text (of_one words word (Alone (Quoted text)) e s)
no_text k words word is e n (values.Boolean true) q s = let wrong : True ≡ Str = q ∙ is in cc (wrong)
no_text k words word is e n (values.Boolean false) q s = let wrong : False ≡ Str = q ∙ is in cc (wrong)
no_text k words word is e n (values.Integer z) q s = let wrong : Int ≡ Str = q ∙ is in cc (wrong)
no_text k words word is e n (values.Number z) q s = let wrong : Num ≡ Str = q ∙ is in cc (wrong)
