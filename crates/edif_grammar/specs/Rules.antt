-- Rows and arguments as the code has them, and what the table says of them.
use Rattle.std.specs.Prelude.{ℕ, List, [], ◌∷◌, map, Bool, true, false, ◌||◌, Option, Some, None}
use Rattle.std.specs.List.{list_any}
use Rattle.edif_spelling_spec.specs.Tree.{Bare, Form', Word', Integer', String', More}
use Rattle.edif_spec.specs.Keyword.{keyword, same, spelling_of, Choice, AnIdentifier, AnInteger, AString, AForm, Follower, FormRow, Takes, Skips, name_definition, bus_name, identifier, integer, string, the}
use Rattle.edif_spec.specs.Keyword as table
use Rattle.edif_spec.specs.declared.keyword.Keyword.{Keyword}
use Rattle.edif_spec.specs.declared.keyword.Keyword.TheVariants as keywords
use Rattle.edif_spec.specs.declared.fault.Kind.{Kind}
use Rattle.edif_spec.specs.declared.fault.Kind.TheVariants.{BadVersion, BadLevel}
use Rattle.edif_grammar.specs.declared.rules.FixedArgument.{FixedArgument}
use Rattle.edif_grammar.specs.declared.rules.FixedArgument.TheVariants as wanted
use Rattle.edif_grammar.specs.declared.rules.Inner.{Inner}
use Rattle.edif_grammar.specs.declared.rules.Inner.TheVariants as inner
use Rattle.edif_grammar.specs.declared.rules.Rule.{Rule}
use Rattle.edif_grammar.specs.declared.rules.Rule.TheVariants as rules
use Rattle.edif_grammar.specs.declared.rules.Argument.{Argument}
use Rattle.edif_grammar.specs.declared.rules.Argument.TheVariants as arguments

-- the choices for what is wanted
abbrev pub choices : FixedArgument → List Choice
choices wanted.Identifier = identifier
choices wanted.Integer = integer
choices wanted.Text = string
choices (wanted.Form k) = the k
choices wanted.Name = name_definition
choices wanted.BusName = bus_name
choices wanted.Bit = AnIdentifier ∷ AForm keywords.Member ∷ []
choices wanted.Truth = AForm keywords.True ∷ AForm keywords.False ∷ []
choices wanted.Number = AnInteger ∷ AForm keywords.E ∷ []
choices wanted.Value = AForm keywords.Boolean ∷ AForm keywords.Integer ∷ AForm keywords.Number ∷ AForm keywords.String ∷ []

-- what may follow
abbrev pub follower : Inner → Follower
follower (inner.Many k) = table.Many k
follower (inner.Once k) = table.One k

-- the row of a rule
abbrev pub row_of : Rule → FormRow
row_of rules.Skips = Skips
row_of (rules.Takes fixed after) = Takes (map choices fixed.now) (map follower after.now)

-- a fault of this kind is none that the row alone gives
abbrev pub has_own_kind : Kind → Bool
has_own_kind BadVersion = true
has_own_kind BadLevel = true
has_own_kind _ = false

-- how rows tell a form of a keyword, or of none of the table
abbrev pub with_keyword : Option Keyword → Argument
with_keyword None = arguments.Strange
with_keyword (Some k) = arguments.Form k

-- how rows tell an argument
abbrev pub argument_of : Bare → Argument
argument_of (Form' p (More (Word' q name) ts)) = with_keyword (keyword name)
argument_of (Form' p ts) = arguments.Strange
argument_of (Word' p name) = arguments.Identifier
argument_of (Integer' p value) = arguments.Integer
argument_of (String' p value) = arguments.Text

-- an argument that rows tell so is this choice
abbrev pub choice_fits : Choice → Argument → Bool
choice_fits AnIdentifier arguments.Identifier = true
choice_fits AnInteger arguments.Integer = true
choice_fits AString arguments.Text = true
choice_fits (AForm k) (arguments.Form j) = same (spelling_of j) (spelling_of k)
choice_fits _ _ = false

-- it is one of these choices
abbrev pub one_fits : List Choice → Argument → Bool
one_fits [] a = false
one_fits (c ∷ cs) a = choice_fits c a || one_fits cs a

-- it is one of these followers
abbrev pub follows : List Follower → Argument → Bool
follows [] a = false
follows (table.Many k ∷ fs) a = choice_fits (AForm k) a || follows fs a
follows (table.One k ∷ fs) a = choice_fits (AForm k) a || follows fs a

-- the row has it somewhere
abbrev pub row_fits : FormRow → Argument → Bool
row_fits Skips a = false
row_fits (Takes cs fs) a = list_any (λ c. one_fits c a) cs || follows fs a

-- the name that a form begins with
abbrev pub first_word : Bare → Option (List ℕ)
first_word (Form' p (More (Word' q name) ts)) = Some name
first_word _ = None

-- a second form of this keyword is a bad form, where one is allowed
abbrev pub is_plain : Keyword → Bool
is_plain keywords.View = false
is_plain keywords.Design = false
is_plain k = true

-- a token, as rows tell arguments
abbrev pub is_token : Argument → Bool
is_token (arguments.Form k) = false
is_token arguments.Strange = false
is_token _ = true
