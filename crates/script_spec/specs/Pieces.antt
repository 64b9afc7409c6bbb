-- The pieces of a script's line: the text of each, which words spell it, and which can be said.
use Rattle.std.specs.Prelude.{◌≡◌, ◌≤◌, ◌<◌, ◌^◌, ℕ, ℤ, FitsSigned, List, [], ◌∷◌, ◌++◌, length, map, decimal}
use Rattle.std.specs.Fmt.{signed_decimal}
use Rattle.std.specs.Int.{w32, w64}
use Rattle.std.specs.List.{All}
use Rattle.std.specs.Str.Parse.{IsNumeral, digits_value}
use Rattle.netlist_schema.specs.Ident.{IsIdentifier}
use Rattle.netlist_schema.specs.Typed.{IsBytes}
use Rattle.edif_spelling_spec.specs.Grammar.{SpellsInteger, SpellsString}
use Rattle.edif_spec.specs.Canonical.{string_text}

-- what a word stands for, or a part of it
pub data Atom : Type 0 where
  -- a word of the language
  Said : List ℕ → Atom
  -- an identifier
  Named : List ℕ → Atom
  -- a number, with the least and the greatest that may stand there
  Number : ℕ → ℕ → ℕ → Atom
  -- an integer of 64 bits, and one of 32
  Integer : ℤ → Atom
  Exponent : ℤ → Atom
  -- a string
  Quoted : List ℕ → Atom

-- a word: one atom alone, or atoms with a mark between each two
pub data Piece : Type 0 where
  Alone : Atom → Piece
  Joined : ℕ → List Atom → Piece

-- words with a mark between each two
abbrev pub joined : ℕ → List (List ℕ) → List ℕ
joined mark [] = []
joined mark (word ∷ []) = word
joined mark (word ∷ next ∷ words) = word ++ mark ∷ joined mark (next ∷ words)

-- ---- the canonical text

-- words and identifiers as they stand, numbers in decimal without leading zeros and `+`, strings as a file has them
abbrev pub atom_text : Atom → List ℕ
atom_text (Said word) = word
atom_text (Named id) = id
atom_text (Number least most n) = decimal n
atom_text (Integer z) = signed_decimal z
atom_text (Exponent z) = signed_decimal z
atom_text (Quoted text) = string_text text

abbrev pub piece_text : Piece → List ℕ
piece_text (Alone atom) = atom_text atom
piece_text (Joined mark atoms) = joined mark (map atom_text atoms)

-- ---- the spellings

-- An identifier is spelled as it is, without `&`. A number is decimal digits, with leading zeros or not; an integer may have a
-- sign before them. A string is spelled as in a design file.
abbrev pub SpellsAtom : List ℕ → Atom → Type 0
SpellsAtom word (Said said) = word ≡ said
SpellsAtom word (Named id) = (word ≡ id) × IsIdentifier id
SpellsAtom word (Number least most n) = IsNumeral 10 word × (n ≡ digits_value 10 word) × (least ≤ n) × (n ≤ most)
SpellsAtom word (Integer z) = SpellsInteger word z
SpellsAtom word (Exponent z) = SpellsInteger word z × FitsSigned w32 z
SpellsAtom word (Quoted text) = SpellsString word text

-- the words spell the atoms, one each
abbrev pub SpellAtoms : List (List ℕ) → List Atom → Type 0
SpellAtoms [] [] = Unit {0}
SpellAtoms (word ∷ words) (atom ∷ atoms) = SpellsAtom word atom × SpellAtoms words atoms
SpellAtoms words atoms = ⊥

-- a word of atoms has one atom or more
abbrev pub SpellsPiece : List ℕ → Piece → Type 0
SpellsPiece word (Alone atom) = SpellsAtom word atom
SpellsPiece word (Joined mark atoms) = (parts : List (List ℕ)) × (word ≡ joined mark parts) × (0 < length parts) × SpellAtoms parts atoms

-- the words spell the pieces, one each
abbrev pub SpellPieces : List (List ℕ) → List Piece → Type 0
SpellPieces [] [] = Unit {0}
SpellPieces (word ∷ words) (piece ∷ pieces) = SpellsPiece word piece × SpellPieces words pieces
SpellPieces words pieces = ⊥

-- ---- what can be said

-- names are identifiers, numbers are in their range and of 64 bits, bytes are bytes
abbrev pub IsSayableAtom : Atom → Type 0
IsSayableAtom (Said word) = Unit {0}
IsSayableAtom (Named id) = IsIdentifier id
IsSayableAtom (Number least most n) = (least ≤ n) × (n ≤ most) × (n < 2 ^ 64)
IsSayableAtom (Integer z) = FitsSigned w64 z
IsSayableAtom (Exponent z) = FitsSigned w32 z
IsSayableAtom (Quoted text) = IsBytes text

abbrev pub IsSayablePiece : Piece → Type 0
IsSayablePiece (Alone atom) = IsSayableAtom atom
IsSayablePiece (Joined mark atoms) = (0 < length atoms) × All IsSayableAtom atoms
