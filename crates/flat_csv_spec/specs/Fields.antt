-- Rows of fields, as comma-separated text.
use Rattle.std.specs.Prelude.{◌==◌, ◌||◌, Bool, ℕ, List, [], ◌∷◌, ◌++◌, map, if◌then◌else◌}
use Rattle.std.specs.List.{list_any}

-- a byte for which a field stands in quotes: a comma, a quote, or a mark of the end of a line
abbrev pub calls_for_quotes : ℕ → Bool
calls_for_quotes b = (b == 44) || (b == 34) || (b == 13) || (b == 10)

-- a quote before each quote
abbrev pub doubled : List ℕ → List ℕ
doubled [] = []
doubled (b ∷ bytes) = if b == 34 then 34 ∷ b ∷ doubled bytes else b ∷ doubled bytes

-- a field as text: as it is, or in quotes where a byte calls for them
abbrev pub field_text : List ℕ → List ℕ
field_text field = if list_any calls_for_quotes field then 34 ∷ doubled field ++ 34 ∷ [] else field

-- texts with a comma between each two
abbrev pub separated : List (List ℕ) → List ℕ
separated [] = []
separated (text ∷ []) = text
separated (text ∷ next ∷ texts) = text ++ 44 ∷ separated (next ∷ texts)

-- fields as a row, with a line feed at its end
abbrev pub row : List (List ℕ) → List ℕ
row fields = separated (map field_text fields) ++ 10 ∷ []
