-- Which faults the end of a text makes.
use Rattle.std.specs.Prelude.{◌≡◌, ℕ, Bool, true, ◌||◌, ◌==◌, ◌⊎◌, List, [], ◌∷◌, ◌++◌, length}
use Rattle.edif_spelling_spec.specs.Lexing.{Fault}
use Rattle.edif_spelling_spec.specs.declared.token.LexKind.TheVariants.{BadString}

-- `&`, `+` or `-`: an identifier or an integer may begin with it, and it is neither where it stands alone
abbrev pub is_mark : ℕ → Bool
is_mark b = b == 38 || (b == 43 || b == 45)

-- The text ends inside a string that has no bad escape so far, or its last word is a mark alone: the fault stands at the last
-- byte, and that is a mark.
abbrev pub IsMadeByEnd : List ℕ → Fault → Type 0
IsMadeByEnd bytes fault = (fault.kind ≡ BadString)
    ⊎ ((front : List ℕ) × (mark : ℕ) × (bytes ≡ front ++ mark ∷ []) × (is_mark mark ≡ true) × (fault.place ≡ length front))
