-- How far a reader is in the bytes of a design file that come in pieces.
use Rattle.std.specs.Prelude.{◌≡◌, ◌⊎◌, ℕ, List, ◌++◌, Some}
use Rattle.edif_spelling_spec.specs.Lexing.{lex_fault}
use Rattle.edif_spelling_spec.specs.declared.token.LexKind.{LexKind}
use Rattle.edif_spelling_spec.specs.declared.token.Token.{Token}
use Rattle.edif_lexer.specs.Reading.{Reading, HasRead}
use Rattle.edif_lexer.specs.declared.errors.LexError.TheVariants.{At}
use Rattle.edif_lexer.specs.declared.lexing.State.TheVariants.{Failed}
use Rattle.edif_tree.specs.Maker.{Maker, IsHanded}

-- a reader: its lexer and its maker of trees
pub record Reader : Type 0 where
  pub lexer : Reading
  pub maker : Maker

-- the bytes were read, and their tokens handed to the maker
pub record GoesOn (reader : Reader) (fed : List ℕ) : Type 0 where
  pub handed : List Token
  pub read : HasRead reader.lexer fed handed
  pub taken : IsHanded reader.maker handed

-- the lexer met the first lexical fault of these bytes, whatever follows
pub record HasStopped (reader : Reader) (fed : List ℕ) : Type 0 where
  pub kind : LexKind
  pub place : ℕ
  pub stopped : reader.lexer.state ≡ Failed (At kind place)
  pub fault : (more : List ℕ) → lex_fault (fed ++ more) ≡ Some (record { kind = kind; place = place })

-- the reader was fed these bytes, and has as much memory as it wants
abbrev pub WasFed : Reader → List ℕ → Type 0
WasFed reader fed = GoesOn reader fed ⊎ HasStopped reader fed
