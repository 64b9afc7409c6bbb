-- Where a text has its first fault.
use Rattle.std.specs.Prelude.{◌≡◌, ℕ, ◌+◌, ◌<◌, ◌==◌, true, false, ◌⊎◌, List, [], ◌∷◌, ◌++◌, length, ℤ}
use Rattle.std.specs.List.{list_all}
use Rattle.edif_spelling_spec.specs.Bytes.{is_space, is_word_byte, is_quote, is_unquoted, has_no_percent, EndsRun}
use Rattle.edif_spelling_spec.specs.Words.{begins_number}
use Rattle.edif_spelling_spec.specs.Lexing.{Fault}
use Rattle.edif_spelling_spec.specs.Grammar.{SpellsName, SpellsInteger, SpellsToken, EndsBefore, IsCodes, StandsFor}
use Rattle.edif_spelling_spec.specs.declared.token.Token.{Token}
use Rattle.edif_spelling_spec.specs.declared.token.LexKind.{LexKind}
use Rattle.edif_spelling_spec.specs.declared.token.LexKind.TheVariants.{BadNumber, BadByte, BadEscape, BadString}

-- the bytes from a place on are a row of white space and of spellings of these tokens, each word a longest run, and then the rest
abbrev pub IsFront : ℕ → List ℕ → List Token → List ℕ → Type 0
IsFront place bytes [] rest = (gap : List ℕ) × (bytes ≡ gap ++ rest) × (list_all is_space gap ≡ true)
IsFront place bytes (token ∷ tokens) rest = (gap : List ℕ) × (spelling : List ℕ) × (others : List ℕ) × (bytes ≡ gap ++ (spelling ++ others))
    × (list_all is_space gap ≡ true) × (token.place ≡ place + length gap) × SpellsToken spelling token.kind × EndsBefore token.kind others
    × IsFront (place + length gap + length spelling) others tokens rest

-- a word that begins with a digit or a sign and is no integer
abbrev pub IsBadNumber : List ℕ → Type 0
IsBadNumber rest = (word : List ℕ) × (more : List ℕ) × (rest ≡ word ++ more) × (list_all is_word_byte word ≡ true) × EndsRun is_word_byte more
    × (begins_number word ≡ true) × ((n : ℤ) → SpellsInteger word n → ⊥)

-- another word that is no identifier
abbrev pub IsBadWord : List ℕ → Type 0
IsBadWord rest = (word : List ℕ) × (more : List ℕ) × (rest ≡ word ++ more) × (list_all is_word_byte word ≡ true) × EndsRun is_word_byte more
    × (0 < length word) × (begins_number word ≡ false) × ((name : List ℕ) → SpellsName word name → ⊥)

-- a byte that no token may hold
abbrev pub IsBadByte : List ℕ → Type 0
IsBadByte [] = ⊥
IsBadByte (b ∷ more) = (is_space b ≡ false) × ((b == 40) ≡ false) × ((b == 41) ≡ false) × (is_quote b ≡ false) × (is_word_byte b ≡ false)

-- the escape is closed, or the string or the text ends
abbrev pub EndsEscape : List ℕ → Type 0
EndsEscape [] = Unit {0}
EndsEscape (b ∷ more) = (b ≡ 37) ⊎ (b ≡ 34)

-- the closing quote comes
abbrev pub BeginsWithQuote : List ℕ → Type 0
BeginsWithQuote [] = ⊥
BeginsWithQuote (b ∷ more) = b ≡ 34

-- A string whose closed escapes up to `%` are codes, and then an escape that is none, or that the closing quote leaves open;
-- so many bytes stand before that `%`.
abbrev pub IsBadEscape : List ℕ → ℕ → Type 0
IsBadEscape rest offset = (front : List ℕ) × (escape : List ℕ) × (more : List ℕ) × (rest ≡ 34 ∷ (front ++ 37 ∷ (escape ++ more))) × (offset ≡ length front + 1)
    × (is_unquoted front ≡ true) × ((escapes : List (List ℕ)) × (text : List ℕ) × StandsFor escapes front text)
    × (is_unquoted escape ≡ true) × (has_no_percent escape ≡ true) × EndsEscape more × (((codes : List ℕ) → IsCodes escape codes → ⊥) ⊎ BeginsWithQuote more)

-- a string that the text ends, with no bad escape
abbrev pub IsBadString : List ℕ → Type 0
IsBadString rest = (body : List ℕ) × (rest ≡ 34 ∷ body) × (is_unquoted body ≡ true)
    × (((escapes : List (List ℕ)) × (text : List ℕ) × StandsFor escapes body text)
    ⊎ ((front : List ℕ) × (escape : List ℕ) × (codes : List ℕ) × (body ≡ front ++ 37 ∷ escape)
    × ((escapes : List (List ℕ)) × (text : List ℕ) × StandsFor escapes front text) × IsCodes escape codes))

-- the fault of this kind stands in these bytes, so many bytes after their beginning
abbrev pub StandsAt : LexKind → List ℕ → ℕ → Type 0
StandsAt BadNumber rest offset = (offset ≡ 0) × IsBadNumber rest
StandsAt BadByte rest offset = (offset ≡ 0) × (IsBadWord rest ⊎ IsBadByte rest)
StandsAt BadEscape rest offset = IsBadEscape rest offset
StandsAt BadString rest offset = (offset ≡ 0) × IsBadString rest

-- the bytes from a place on are spellings of these tokens, and then comes the fault
abbrev pub FaultAfter : ℕ → List ℕ → List Token → Fault → Type 0
FaultAfter place bytes tokens fault = (rest : List ℕ) × (offset : ℕ) × IsFront place bytes tokens rest × StandsAt fault.kind rest offset
    × (fault.place + length rest ≡ place + length bytes + offset)
