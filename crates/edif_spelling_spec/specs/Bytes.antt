-- The classes of bytes.
use Rattle.std.specs.Prelude.{◌≡◌, ℕ, Bool, false, not, ◌||◌, ◌==◌, List, [], ◌∷◌}
use Rattle.std.specs.Char.{is_ascii_whitespace}
use Rattle.netlist_schema.specs.Ident.{is_identifier_byte}
use Rattle.std.specs.List.{list_all}

-- tab, line feed, form feed, carriage return and space
abbrev pub is_space : ℕ → Bool
is_space b = is_ascii_whitespace b

-- a byte of an identifier, `&`, `+` or `-`
abbrev pub is_word_byte : ℕ → Bool
is_word_byte b = is_identifier_byte b || (b == 38 || (b == 43 || b == 45))

-- `"`
abbrev pub is_quote : ℕ → Bool
is_quote b = b == 34

-- `%`
abbrev pub is_percent : ℕ → Bool
is_percent b = b == 37

-- no quote is among these bytes
abbrev pub is_unquoted : List ℕ → Bool
is_unquoted body = list_all (λ b. not (is_quote b)) body

-- no longer run of what passes goes on into these bytes
abbrev pub EndsRun : (ℕ → Bool) → List ℕ → Type 0
EndsRun p [] = Unit {0}
EndsRun p (b ∷ bs) = p b ≡ false

-- no `%` is among these bytes
abbrev pub has_no_percent : List ℕ → Bool
has_no_percent bytes = list_all (λ b. not (is_percent b)) bytes
