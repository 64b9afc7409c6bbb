-- How far a lexer is in a text that comes in pieces.
use Rattle.std.specs.Prelude.{◌≡◌, ℕ, ◌+◌, Bool, true, false, ◌&&◌, if◌then◌else◌, List, [], ◌∷◌, ◌++◌, length, None, Some, Result, Ok, Err}
use Rattle.std.specs.List.{list_all}
use Rattle.edif_spelling_spec.specs.Bytes.{is_word_byte, is_quote, is_unquoted}
use Rattle.edif_spelling_spec.specs.Lexing.{Lexed, before, lexed, tokens, lex_fault}
use Rattle.edif_spelling_spec.specs.declared.token.Token.{Token}
use Rattle.edif_lexer.specs.declared.errors.LexError.{LexError}
use Rattle.edif_lexer.specs.declared.errors.LexError.TheVariants.{At, NoMemory}
use Rattle.edif_lexer.specs.declared.lexing.State.{State}
use Rattle.edif_lexer.specs.declared.lexing.State.TheVariants.{Running}

-- a lexer: how many bytes stand before a token that has begun, the bytes of that token so far, and whether the lexer goes on
pub record Reading : Type 0 where
  pub start : ℕ
  pub pending : List ℕ
  pub state : State

-- a string without its closing quote
abbrev pub is_open_string : List ℕ → Bool
is_open_string [] = false
is_open_string (b ∷ bs) = is_quote b && is_unquoted bs

-- nothing, a string without its closing quote, or bytes of a word
abbrev pub is_pending : List ℕ → Bool
is_pending [] = true
is_pending (b ∷ bs) = if is_quote b then is_unquoted bs else list_all is_word_byte (b ∷ bs)

-- the whole begins with the front
abbrev pub IsPrefix : List Token → List Token → Type 0
IsPrefix front whole = (rest : List Token) × (whole ≡ front ++ rest)

-- These tokens are complete in the bytes: they come first, however the text goes on, and no more do.
pub record AreComplete (bytes : List ℕ) (ts : List Token) : Type 0 where
  pub first : (more : List ℕ) → IsPrefix ts (tokens (bytes ++ more))
  pub all : (others : List Token) → ((more : List ℕ) → IsPrefix others (tokens (bytes ++ more))) → IsPrefix others ts

-- what will be read of the token that has begun and of these bytes, where no others come
abbrev pub ahead : Reading → List ℕ → Lexed
ahead reading more = lexed reading.start 0 (reading.pending ++ more)

-- The lexer was fed these bytes, and has handed out these tokens: they are those that are complete in the bytes, and what is read
-- of the bytes and of any that follow is these tokens and then what is ahead.
pub record HasRead (reading : Reading) (fed : List ℕ) (handed : List Token) : Type 0 where
  pub running : reading.state ≡ Running
  pub count : reading.start + length reading.pending ≡ length fed
  pub complete : AreComplete fed handed
  pub rest : (more : List ℕ) → lexed 0 0 (fed ++ more) ≡ before handed (ahead reading more)

-- What it means that `feed` answered so, where the bytes fed before are `fed` and the tokens handed out before are `handed`. Ok: the
-- lexer has read the piece too, and has handed out `gained` too. Without memory: what was handed out comes first, whatever follows.
-- A fault: it is the first one, whatever follows, and the tokens before it were handed out.
abbrev pub Feeds : (fed piece : List ℕ) (handed gained : List Token) (new : Reading) → Result (Unit {0}) LexError → Type 0
Feeds fed piece handed gained new (Ok _) = HasRead new (fed ++ piece) (handed ++ gained)
Feeds fed piece handed gained new (Err NoMemory) = (more : List ℕ) → IsPrefix (handed ++ gained) (tokens (fed ++ piece ++ more))
Feeds fed piece handed gained new (Err (At kind place)) = (more : List ℕ) → (lex_fault (fed ++ piece ++ more) ≡ Some (record { kind = kind; place = place })) × (tokens (fed ++ piece ++ more) ≡ handed ++ gained)

-- What it means that `finish` answered so, where the text is `fed` and the tokens handed out before are `handed`. Ok: the number is
-- that of the bytes, there is no fault, and all tokens were handed out. Without memory: what was handed out comes first in the
-- text's tokens. A fault: it is the first one, and the tokens before it were handed out.
abbrev pub Finishes : (fed : List ℕ) (handed gained : List Token) → Result ℕ LexError → Type 0
Finishes fed handed gained (Ok n) = (n ≡ length fed) × (lex_fault fed ≡ None) × (tokens fed ≡ handed ++ gained)
Finishes fed handed gained (Err NoMemory) = IsPrefix (handed ++ gained) (tokens fed)
Finishes fed handed gained (Err (At kind place)) = (lex_fault fed ≡ Some (record { kind = kind; place = place })) × (tokens fed ≡ handed ++ gained)
