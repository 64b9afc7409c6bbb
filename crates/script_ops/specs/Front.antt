-- What it is to take words from the front of others.
use Rattle.std.specs.Prelude.{◌≡◌, ℕ, List, ◌++◌, Result, MatchResult}
use Rattle.std.specs.Borrow.{Bor}
use Rattle.script_spec.specs.Pieces.{Piece, SpellPieces}
use Rattle.script_words.specs.Reading.{lent}
use Rattle.script_words.specs.declared.unread.Unread.{Unread}
use Rattle.script_words.specs.declared.unread.Unread.TheVariants.{Bad}

-- Words begin with the spelling of a value's pieces, and these are left: they are what any further pieces are spelled by.
pub record Takes {V : Type 0} (pieces : V → List Piece) (words : List (List ℕ)) (v : V) (left : List (List ℕ)) : Type 0 where
  pub make : (more : List Piece) → SpellPieces left more → SpellPieces words (pieces v ++ more)
  pub back : (u : V) (more : List Piece) → SpellPieces words (pieces u ++ more) → SpellPieces left more

-- words begin with the spelling of no such value
abbrev pub Lacks : {V : Type 0} → (V → List Piece) → List (List ℕ) → Type 0
Lacks {V} pieces words = (v : V) (more : List Piece) → ¬ SpellPieces words (pieces v ++ more)

-- a value was taken from the front of lent words, and what is left is lent; or they begin with none
abbrev pub TakesFront : {V : Type 0} → (V → List Piece) → List (Bor (List ℕ)) → Result (V × Bor (List (Bor (List ℕ)))) Unread → Type 0
TakesFront pieces words result = MatchResult result (λ p. Takes pieces (lent words) p.0 (lent p.1.now)) (λ e. e ≡ Bad → Lacks pieces (lent words))
