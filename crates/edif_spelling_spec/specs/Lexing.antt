-- The tokens of a text, and its first lexical fault.
use Rattle.std.specs.Prelude.{ℕ, zero, suc, ◌+◌, ◌-◌, true, false, ◌==◌, nat_lt, if◌then◌else◌, List, [], ◌∷◌, ◌++◌, length, Option, None, Some, Result, Ok, Err}
use Rattle.std.specs.List.{take_while, before_first}
use Rattle.edif_spelling_spec.specs.Bytes.{is_space, is_word_byte, is_quote}
use Rattle.edif_spelling_spec.specs.Words.{word_kind}
use Rattle.edif_spelling_spec.specs.Strings.{segments, value, escape_fault}
use Rattle.edif_spelling_spec.specs.declared.token.Token.{Token}
use Rattle.edif_spelling_spec.specs.declared.token.TokenKind.{TokenKind}
use Rattle.edif_spelling_spec.specs.declared.token.TokenKind.TheVariants.{LeftParen, RightParen, String}
use Rattle.edif_spelling_spec.specs.declared.token.LexKind.{LexKind}
use Rattle.edif_spelling_spec.specs.declared.token.LexKind.TheVariants.{BadByte, BadEscape, BadString}

-- a lexical fault, and the number of bytes before it
pub record Fault : Type 0 where
  pub kind : LexKind
  pub place : ℕ

-- the tokens before the first fault, or all of them
pub record Lexed : Type 0 where
  pub tokens : List Token
  pub fault : Option Fault

-- what stands first in a text: white space, the spelling of a token with its length,
-- or a fault with the number of bytes before it
pub data First : Type 0 where
  Space : First
  Spelling : TokenKind → ℕ → First
  Bad : LexKind → ℕ → First

-- the word that stands first, a longest run
abbrev pub first_word : List ℕ → Result TokenKind LexKind → First
first_word run (Ok kind) = Spelling kind (length run)
first_word run (Err fault) = Bad fault 0

-- a string that has its closing quote: its value, or its first bad escape
abbrev pub closed_string : List ℕ → Option ℕ → First
closed_string body None = Spelling (String (value (segments body))) (length body + 2)
closed_string body (Some at) = Bad BadEscape (at + 1)

-- a string that the text ends: its first bad escape, or its opening quote
abbrev pub open_string : Option ℕ → First
open_string None = Bad BadString 0
open_string (Some at) = Bad BadEscape (at + 1)

-- the string that stands first, where the bytes behind its opening quote are these
abbrev pub first_string : List ℕ → First
first_string bytes = let body = before_first is_quote bytes in
    if nat_lt (length body) (length bytes) then closed_string body (escape_fault true 0 (segments body)) else open_string (escape_fault false 0 (segments body))

-- what a byte begins, where these bytes follow it
unfoldable pub first : ℕ → List ℕ → First
first b bytes =
    if is_space b then Space
    else if b == 40 then Spelling LeftParen 1
    else if b == 41 then Spelling RightParen 1
    else if is_quote b then first_string bytes
    else if is_word_byte b then first_word (take_while is_word_byte (b ∷ bytes)) (word_kind (take_while is_word_byte (b ∷ bytes)))
    else Bad BadByte 0

-- tokens, and then what else is read
abbrev pub before : List Token → Lexed → Lexed
before ts rest = record { tokens = ts ++ rest.tokens; fault = rest.fault }

-- what is read at a place where this stands first, and `rest` reads on behind so many more bytes that belong to it
abbrev pub read_on : First → ℕ → (ℕ → Lexed) → Lexed
read_on Space place rest = rest 0
read_on (Spelling kind n) place rest = before (record { kind = kind; place = place } ∷ []) (rest (n - 1))
read_on (Bad kind n) place rest = record { tokens = []; fault = Some (record { kind = kind; place = place + n }) }

-- what is read from a place on, where the first `skip` bytes belong to a spelling that began before
unfoldable pub lexed : ℕ → ℕ → List ℕ → Lexed
lexed place skip [] = record { tokens = []; fault = None }
lexed place (suc skip) (b ∷ bytes) = lexed (place + 1) skip bytes
lexed place zero (b ∷ bytes) = read_on (first b bytes) place (λ n. lexed (place + 1) n bytes)

-- the tokens before the first lexical fault, with their places
abbrev pub tokens : List ℕ → List Token
tokens bytes = (lexed 0 0 bytes).tokens

-- the first lexical fault, or none
abbrev pub lex_fault : List ℕ → Option Fault
lex_fault bytes = (lexed 0 0 bytes).fault
