-- What the bytes between two quotes stand for.
use Rattle.std.specs.Prelude.{ℕ, ◌+◌, Bool, not, ◌&&◌, ◌||◌, nat_le, if◌then◌else◌, List, [], ◌∷◌, ◌++◌, length, map, Option, None, Some}
use Rattle.std.specs.List.{list_all, filter, slice_split}
use Rattle.std.specs.Str.{all_ascii_digits}
use Rattle.std.specs.Str.Parse.{digits_value}
use Rattle.edif_spelling_spec.specs.Bytes.{is_space, is_percent}
use Rattle.edif_spelling_spec.specs.Names.{is_empty}

-- the parts between the `%`: plain bytes and escapes in turn, plain bytes first
abbrev pub segments : List ℕ → List (List ℕ)
segments body = slice_split is_percent body

-- decimal digits of a value up to 255
abbrev pub is_code : List ℕ → Bool
is_code text = all_ascii_digits text && nat_le (digits_value 10 text) 255

-- the parts between white space, where an empty one stands for nothing
abbrev pub code_texts : List (List ℕ) → List (List ℕ)
code_texts parts = filter (λ text. not (is_empty text)) parts

-- each part that is not empty is a code
unfoldable pub are_codes : List (List ℕ) → Bool
are_codes parts = list_all is_code (code_texts parts)

-- the values of the parts that are not empty
unfoldable pub codes_of : List (List ℕ) → List ℕ
codes_of parts = map (digits_value 10) (code_texts parts)

-- decimal codes, separated by white space
abbrev pub is_escape : List ℕ → Bool
is_escape escape = are_codes (slice_split is_space escape)

-- what these codes are
abbrev pub codes : List ℕ → List ℕ
codes escape = codes_of (slice_split is_space escape)

-- plain bytes stand for themselves, an escape for its codes
abbrev pub value : List (List ℕ) → List ℕ
value [] = []
value (plain ∷ []) = plain
value (plain ∷ escape ∷ more) = plain ++ codes escape ++ value more

-- how many bytes stand before the `%` that opens the first bad escape, where `at` stand before the parts:
-- one that is not codes, or one that the closing quote leaves open
abbrev pub escape_fault : Bool → ℕ → List (List ℕ) → Option ℕ
escape_fault closed at [] = None
escape_fault closed at (plain ∷ []) = None
escape_fault closed at (plain ∷ escape ∷ []) = if closed || not (is_escape escape) then Some (at + length plain) else None
escape_fault closed at (plain ∷ escape ∷ next ∷ more) = if is_escape escape then escape_fault closed (at + length plain + length escape + 2) (next ∷ more) else Some (at + length plain)
