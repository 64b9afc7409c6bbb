-- A sink that compares: the state, and what a piece leaves.
use Rattle.std.specs.Prelude.{◌≡◌, ◌<◌, ◌≤◌, ℕ, suc, Bool, true, false, Option, Some, None, List, [], ◌∷◌, ◌++◌, length, map, take}
use Rattle.netdb_outside.specs.Outside.{raised}

-- the text, the bytes that were put, up to the first that is another one there, and how many faults there were
pub record SameFacts : Type 0 where
  pub text : List ℕ
  pub bytes : List ℕ
  pub faults : ℕ

-- the text, closed by an end, and then the bytes that were put
abbrev pub text_then_bytes : SameFacts → List ℕ
text_then_bytes s = map suc s.text ++ 0 ∷ s.bytes

-- so many bytes of the text, and the one behind them that is another one, where there was one
abbrev pub bytes_put : List ℕ → ℕ → Option ℕ → List ℕ
bytes_put text same None = take same text
bytes_put text same (Some byte) = take same text ++ byte ∷ []

-- the text does not begin with the bytes
abbrev pub PartsFrom : List ℕ → List ℕ → Type 0
PartsFrom text bytes = (more : List ℕ) → ¬ (text ≡ bytes ++ more)

-- the byte behind them is another one, or there was no fault
abbrev pub IsOther : List ℕ → ℕ → ℕ → Option ℕ → Type 0
IsOther text same faults None = faults ≡ 0
IsOther text same faults (Some byte) = PartsFrom text (take same text ++ byte ∷ [])

-- so many bytes at the front of a piece are those at the front of a text, and the next one, where there is one, is not
pub record IsCommon (text piece : List ℕ) (count : ℕ) : Type 0 where
  pub in_text : count ≤ length text
  pub in_piece : count ≤ length piece
  pub same : take count text ≡ take count piece
  pub other : count < length piece → PartsFrom text (take (suc count) piece)

-- a piece that is the same there was put; of another one a front, with a fault
abbrev pub Compares : SameFacts → SameFacts → List ℕ → Bool → Type 0
Compares old new piece true = new ≡ record old { bytes = old.bytes ++ piece }
Compares old new piece false = (front : List ℕ) × (left : List ℕ) × (piece ≡ front ++ left) × (new ≡ record { text = old.text; bytes = old.bytes ++ front; faults = raised old.faults })
