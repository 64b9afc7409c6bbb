-- What one step of a lexer does, for its private functions.
use Rattle.std.specs.Prelude.{◌≡◌, ℕ, true, ◌+◌, List, [], ◌++◌, length, take, None, Some, Result, Ok, Err}
use Rattle.edif_spelling_spec.specs.Lexing.{before}
use Rattle.edif_lexer.specs.Reading.{Reading, IsPrefix, ahead, is_pending}
use Rattle.edif_spelling_spec.specs.declared.token.Token.{Token}
use Rattle.edif_lexer.specs.declared.errors.LexError.{LexError}
use Rattle.edif_lexer.specs.declared.errors.LexError.TheVariants.{At, NoMemory}
use Rattle.edif_spelling_spec.specs.declared.token.LexKind.TheVariants.{BadEscape}

-- any bytes, or none, may follow
abbrev pub Anything : List ℕ → Type 0
Anything more = Unit {0}

-- The bytes were read and gave these tokens, where what follows meets P.
pub record Continues (P : List ℕ → Type 0) (old : Reading) (bytes : List ℕ) (new : Reading) (gained : List Token) : Type 0 where
  pub state : new.state ≡ old.state
  pub pending : is_pending old.pending ≡ true → is_pending new.pending ≡ true
  pub count : new.start + length new.pending ≡ old.start + length old.pending + length bytes
  pub reads : (more : List ℕ) → P more → ahead old (bytes ++ more) ≡ before gained (ahead new more)

-- The error comes in these bytes, where what follows meets P: the tokens before it were handed out, or some of them for want of
-- memory.
abbrev pub Stops : (List ℕ → Type 0) → Reading → List ℕ → List Token → LexError → Type 0
Stops P old bytes gained NoMemory = (more : List ℕ) → P more → IsPrefix gained (ahead old (bytes ++ more)).tokens
Stops P old bytes gained (At kind place) = (more : List ℕ) → P more → ahead old (bytes ++ more) ≡ record { tokens = gained; fault = Some (record { kind = kind; place = place }) }

-- The bytes were read, or an error came in them.
abbrev pub Advances : {A : Type 0} → (List ℕ → Type 0) → Reading → List ℕ → Reading → List Token → Result A LexError → Type 0
Advances P old bytes new gained (Ok _) = Continues P old bytes new gained
Advances P old bytes new gained (Err e) = Stops P old bytes gained e

-- The first so many of the bytes were read, or an error came in the bytes.
abbrev pub ReadsFront : Reading → List ℕ → Reading → List Token → Result ℕ LexError → Type 0
ReadsFront old bytes new gained (Ok n) = Continues Anything old (take n bytes) new gained
ReadsFront old bytes new gained (Err e) = Stops Anything old bytes gained e

-- the error of an escape at which so many bytes of the string were read
abbrev pub BadEscapeOf : Reading → ℕ → LexError → Type 0
BadEscapeOf reading at NoMemory = Unit {0}
BadEscapeOf reading at (At kind place) = (kind ≡ BadEscape) × (place ≡ reading.start + at + 1)

-- the error where the text ends here
abbrev pub StopsAtEnd : Reading → List Token → LexError → Type 0
StopsAtEnd old gained NoMemory = IsPrefix gained (ahead old []).tokens
StopsAtEnd old gained (At kind place) = ahead old [] ≡ record { tokens = gained; fault = Some (record { kind = kind; place = place }) }

-- the answer where the text ends here
abbrev pub Ends : Reading → List Token → Result ℕ LexError → Type 0
Ends old gained (Ok n) = (n ≡ old.start + length old.pending) × (ahead old [] ≡ record { tokens = gained; fault = None })
Ends old gained (Err e) = StopsAtEnd old gained e
