-- Strings that begin and end in a piece.
use Rattle.std.specs.Prelude.{◌≡◌, ◌≤◌, ◌+◌, ◌&&◌, ℕ, Bool, true, not, List, [], ◌∷◌, ◌++◌, length, take}
use Rattle.std.specs.List.{list_all}
use Rattle.edif_spelling_spec.specs.Bytes.{is_percent, is_quote}

-- a byte of a string that stands for itself
abbrev pub is_plain : ℕ → Bool
is_plain b = not (is_quote b) && not (is_percent b)

-- a string is in front, in whose quotes these bytes stand, and no escape
pub record IsQuoted (bytes text : List ℕ) : Type 0 where
  pub plain : list_all is_plain text ≡ true
  pub within : length text + 2 ≤ length bytes
  pub front : take (length text + 2) bytes ≡ 34 ∷ (text ++ 34 ∷ [])
