-- The parts of a string, as they are written one after another.
use Rattle.std.specs.Prelude.{◌≡◌, ℕ, Bool, true, false, List, ◌++◌}
use Rattle.edif_spec.specs.Canonical.{plain_text, coded_text}

-- bytes, and maybe more behind them
abbrev pub Grows : List ℕ → List ℕ → Type 0
Grows old new = (more : List ℕ) × (new ≡ old ++ more)

-- the rest of a string's body, where the byte before it was written as a code or not
abbrev pub body_text : Bool → List ℕ → List ℕ
body_text false bytes = plain_text bytes
body_text true bytes = coded_text bytes
