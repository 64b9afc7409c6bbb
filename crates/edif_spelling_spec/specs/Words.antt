-- What a word stands for.
use Rattle.std.specs.Prelude.{ℕ, ◌^◌, Bool, false, not, ◌&&◌, ◌||◌, ◌==◌, nat_lt, if◌then◌else◌, List, [], ◌∷◌, ℤ, pos, negsuc, Option, None, Some, Result, Ok, Err}
use Rattle.std.specs.Char.{is_ascii_digit}
use Rattle.std.specs.Str.{all_ascii_digits}
use Rattle.std.specs.Str.Parse.{without_leading_sign, signed_digits_value}
use Rattle.edif_spelling_spec.specs.Names.{is_empty, is_name}
use Rattle.edif_spelling_spec.specs.declared.token.TokenKind.{TokenKind}
use Rattle.edif_spelling_spec.specs.declared.token.TokenKind.TheVariants.{Word, Integer}
use Rattle.edif_spelling_spec.specs.declared.token.LexKind.{LexKind}
use Rattle.edif_spelling_spec.specs.declared.token.LexKind.TheVariants.{BadNumber, BadByte}

-- the name of an identifier: what stands behind a first `&`, or a name that begins with no digit
abbrev pub identifier : List ℕ → Option (List ℕ)
identifier [] = None
identifier (b ∷ bs) = if b == 38 then (if is_name bs then Some bs else None) else (if is_name (b ∷ bs) && not (is_ascii_digit b) then Some (b ∷ bs) else None)

-- within i64, from -2^63 to 2^63 - 1
abbrev pub fits_i64 : ℤ → Bool
fits_i64 (pos n) = nat_lt n (2 ^ 63)
fits_i64 (negsuc n) = nat_lt n (2 ^ 63)

-- a sign or none, and digits, whose value is within i64
abbrev pub integer : List ℕ → Option ℤ
integer word = let digits = without_leading_sign word in if (not (is_empty digits) && all_ascii_digits digits) && fits_i64 (signed_digits_value 10 word) then Some (signed_digits_value 10 word) else None

-- a word that begins with a digit or a sign is to be an integer
abbrev pub begins_number : List ℕ → Bool
begins_number [] = false
begins_number (b ∷ bs) = is_ascii_digit b || (b == 43 || b == 45)

-- the token, or the fault where there is none
abbrev pub or_fault : {A : Type 0} → (A → TokenKind) → LexKind → Option A → Result TokenKind LexKind
or_fault kind fault None = Err fault
or_fault kind fault (Some x) = Ok (kind x)

-- the token that a word is, or its fault
unfoldable pub word_kind : List ℕ → Result TokenKind LexKind
word_kind word = if begins_number word then or_fault Integer BadNumber (integer word) else or_fault Word BadByte (identifier word)
