-- The shape of a text: white space, and spellings of tokens.
use Rattle.std.specs.Prelude.{◌≡◌, ℕ, ◌+◌, ◌≤◌, true, false, ◌⊎◌, List, [], ◌∷◌, ◌++◌, length, ℤ, pos, neg_ℤ, FitsSigned}
use Rattle.std.specs.Char.{is_ascii_digit}
use Rattle.std.specs.Int.{w64}
use Rattle.std.specs.List.{list_all}
use Rattle.std.specs.Str.Parse.{IsNumeral, digits_value}
use Rattle.edif_spelling_spec.specs.Bytes.{is_space, is_word_byte, is_unquoted, has_no_percent, EndsRun}
use Rattle.netlist_schema.specs.Ident.{IsIdentifier}
use Rattle.edif_spelling_spec.specs.declared.token.Token.{Token}
use Rattle.edif_spelling_spec.specs.declared.token.TokenKind.{TokenKind}
use Rattle.edif_spelling_spec.specs.declared.token.TokenKind.TheVariants.{LeftParen, RightParen, Word, Integer, String}

-- the name begins with no digit
abbrev pub BeginsWithNoDigit : List ℕ → Type 0
BeginsWithNoDigit [] = Unit {0}
BeginsWithNoDigit (b ∷ bs) = is_ascii_digit b ≡ false

-- an identifier: `&` and the name, or the name alone where it begins with no digit
abbrev pub SpellsName : List ℕ → List ℕ → Type 0
SpellsName spelling name = IsIdentifier name × ((spelling ≡ 38 ∷ name) ⊎ ((spelling ≡ name) × BeginsWithNoDigit name))

-- an integer within i64: digits, with `+`, with `-` or with no sign before them
abbrev pub SpellsInteger : List ℕ → ℤ → Type 0
SpellsInteger spelling n = FitsSigned w64 n × ((digits : List ℕ) × IsNumeral 10 digits
    × ((((spelling ≡ digits) ⊎ (spelling ≡ 43 ∷ digits)) × (n ≡ pos (digits_value 10 digits)))
    ⊎ ((spelling ≡ 45 ∷ digits) × (n ≡ neg_ℤ (pos (digits_value 10 digits))))))

-- white space comes, or the end
abbrev pub EndsCode : List ℕ → Type 0
EndsCode [] = Unit {0}
EndsCode (b ∷ bs) = is_space b ≡ true

-- decimal codes from 0 to 255 with white space between them, and maybe before the first and after the last
abbrev pub IsCodes : List ℕ → List ℕ → Type 0
IsCodes escape [] = list_all is_space escape ≡ true
IsCodes escape (code ∷ codes) = (gap : List ℕ) × (digits : List ℕ) × (rest : List ℕ) × (escape ≡ gap ++ (digits ++ rest))
    × (list_all is_space gap ≡ true) × IsNumeral 10 digits × (code ≡ digits_value 10 digits) × (code ≤ 255) × EndsCode rest × IsCodes rest codes

-- The bytes stand for the text, where these are the codes of each escape: between two `%` stand codes,
-- and each other byte stands for itself.
abbrev pub StandsFor : List (List ℕ) → List ℕ → List ℕ → Type 0
StandsFor [] body text = (has_no_percent body ≡ true) × (text ≡ body)
StandsFor (codes ∷ others) body text = (plain : List ℕ) × (escape : List ℕ) × (rest : List ℕ) × (more : List ℕ) × (body ≡ plain ++ 37 ∷ (escape ++ 37 ∷ rest))
    × (has_no_percent plain ≡ true) × IsCodes escape codes × (text ≡ plain ++ codes ++ more) × StandsFor others rest more

-- a string: two quotes, and between them bytes, none a quote, that stand for the text
abbrev pub SpellsString : List ℕ → List ℕ → Type 0
SpellsString spelling text = (body : List ℕ) × (spelling ≡ 34 ∷ (body ++ 34 ∷ [])) × (is_unquoted body ≡ true)
    × ((escapes : List (List ℕ)) × StandsFor escapes body text)

-- the bytes spell the token
abbrev pub SpellsToken : List ℕ → TokenKind → Type 0
SpellsToken spelling LeftParen = spelling ≡ 40 ∷ []
SpellsToken spelling RightParen = spelling ≡ 41 ∷ []
SpellsToken spelling (Word name) = SpellsName spelling name
SpellsToken spelling (Integer n) = SpellsInteger spelling n
SpellsToken spelling (String text) = SpellsString spelling text

-- a word or an integer is a longest run
abbrev pub EndsBefore : TokenKind → List ℕ → Type 0
EndsBefore (Word name) rest = EndsRun is_word_byte rest
EndsBefore (Integer n) rest = EndsRun is_word_byte rest
EndsBefore _ rest = Unit {0}

-- the bytes from a place on are a row of white space and of spellings of these tokens, each word a longest run
abbrev pub IsRow : ℕ → List ℕ → List Token → Type 0
IsRow place bytes [] = list_all is_space bytes ≡ true
IsRow place bytes (token ∷ tokens) = (gap : List ℕ) × (spelling : List ℕ) × (rest : List ℕ) × (bytes ≡ gap ++ (spelling ++ rest))
    × (list_all is_space gap ≡ true) × (token.place ≡ place + length gap) × SpellsToken spelling token.kind × EndsBefore token.kind rest
    × IsRow (place + length gap + length spelling) rest tokens
