-- Values by their first words.
use Rattle.std.specs.Prelude.{◌≡◌, List, ℕ, [], ◌∷◌, Result, true, false, codes, MatchResult}
use Rattle.netlist_schema.specs.Types.{Value}
use Rattle.netlist_schema.specs.declared.property.Num.{Num}
use Rattle.netlist_schema.specs.declared.property.Num.TheVariants as numbers
use Rattle.netlist_schema.specs.declared.property.Value.TheVariants as values
use Rattle.script_spec.specs.Lines.{said}
use Rattle.script_spec.specs.Pieces.{Alone, Exponent, Integer, Quoted, Piece, SpellPieces}
use Rattle.script_words.specs.declared.unread.Unread.{Unread}
use Rattle.script_words.specs.declared.unread.Unread.TheVariants.{Bad}
use Rattle.script_ops.specs.declared.values.Kind.{Kind}
use Rattle.script_ops.specs.declared.values.Kind.TheVariants as kinds

abbrev pub kind_word : Kind → List ℕ
kind_word kinds.True = codes "true"
kind_word kinds.False = codes "false"
kind_word kinds.Int = codes "int"
kind_word kinds.Num = codes "num"
kind_word kinds.Str = codes "str"

abbrev pub kind_of : Value → Kind
kind_of (values.Boolean true) = kinds.True
kind_of (values.Boolean false) = kinds.False
kind_of (values.Integer z) = kinds.Int
kind_of (values.Number n) = kinds.Num
kind_of (values.Text text) = kinds.Str

-- the pieces of a number behind `num`
abbrev pub num_rest : Num → List Piece
num_rest (numbers.Int z) = Alone (Integer z) ∷ []
num_rest (numbers.Scaled m x) = Alone (Integer m) ∷ said (codes "e") ∷ Alone (Exponent x) ∷ []

-- the pieces of a value behind its first word
abbrev pub value_rest : Value → List Piece
value_rest (values.Boolean b) = []
value_rest (values.Integer z) = Alone (Integer z) ∷ []
value_rest (values.Number n) = num_rest n
value_rest (values.Text text) = Alone (Quoted text) ∷ []

-- a value of this kind was read from the words behind its first, or they say none
abbrev pub ReadsValue : Kind → List (List ℕ) → Result Value Unread → Type 0
ReadsValue kind words result = MatchResult result (λ v. (kind_of v ≡ kind) × SpellPieces words (value_rest v))
    (λ e. e ≡ Bad → (v : Value) → kind_of v ≡ kind → ¬ SpellPieces words (value_rest v))
