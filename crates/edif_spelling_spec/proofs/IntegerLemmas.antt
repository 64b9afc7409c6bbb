-- A word that is a sign or none and digits, and its value.
use Rattle.std.proofs.Common.{◌≡◌, ℕ, ◌<◌, ◌^◌, Bool, true, not, ◌&&◌, List, [], ◌∷◌, length, ℤ, pos, negsuc, refl, arith}
use Rattle.std.proofs.lemmas.Bool.{and_parts, and_from, ltb-true, lt-ltb}
use Rattle.std.proofs.lemmas.Str.Parse.{tells_digits, tells_all_ascii_digits}
use Rattle.std.specs.Prelude.{FitsSigned}
use Rattle.std.specs.Int.{w64}
use Rattle.std.specs.Str.{all_ascii_digits}
use Rattle.std.specs.Str.Parse.{AllDigits, IsNumeral, without_leading_sign, signed_digits_value}
use Rattle.edif_spelling_spec.specs.Names.{is_empty}
use Rattle.edif_spelling_spec.specs.Words.{fits_i64}

-- the two ways to say that bytes are digits
pub digits_test : (ds : List ℕ) → AllDigits 10 ds → all_ascii_digits ds ≡ true
digits_test [] h = refl
digits_test (c ∷ cs) h = let p = tells_digits.parts c cs h in tells_all_ascii_digits.more c cs p.0 (digits_test cs p.1)

pub digits_from_test : (ds : List ℕ) → all_ascii_digits ds ≡ true → AllDigits 10 ds
digits_from_test [] h = tt
digits_from_test (c ∷ cs) h = let p = tells_all_ascii_digits.parts c cs h in tells_digits.more c cs p.0 (digits_from_test cs p.1)

-- the two ways to say that a number is within i64
fits_test : (z : ℤ) → FitsSigned w64 z → fits_i64 z ≡ true
fits_test (pos n) h = lt-ltb n (2 ^ 63) h.sfits
fits_test (negsuc n) h = lt-ltb n (2 ^ 63) h.sfits

fits_from_test : (z : ℤ) → fits_i64 z ≡ true → FitsSigned w64 z
fits_from_test (pos n) h = record { sfits = ltb-true n (2 ^ 63) h }
fits_from_test (negsuc n) h = record { sfits = ltb-true n (2 ^ 63) h }

not_empty : (ds : List ℕ) → 0 < length ds → not (is_empty ds) ≡ true
not_empty ds h = grind arith

length_from_test : (ds : List ℕ) → not (is_empty ds) ≡ true → 0 < length ds
length_from_test ds h = grind arith

-- the test that an integer passes
abbrev pub test_of : List ℕ → Bool
test_of word = (not (is_empty (without_leading_sign word)) && all_ascii_digits (without_leading_sign word)) && fits_i64 (signed_digits_value 10 word)

-- the test, from what it stands for, and back
pub test_from_numeral : (word : List ℕ) → IsNumeral 10 (without_leading_sign word) × FitsSigned w64 (signed_digits_value 10 word) → test_of word ≡ true
test_from_numeral word h =
    and_from _ _ (and_from _ _ (not_empty (without_leading_sign word) h.0.0) (digits_test (without_leading_sign word) h.0.1)) (fits_test (signed_digits_value 10 word) h.1)

pub numeral_from_test : (word : List ℕ) → test_of word ≡ true → IsNumeral 10 (without_leading_sign word) × FitsSigned w64 (signed_digits_value 10 word)
numeral_from_test word h =
    let p = and_parts (not (is_empty (without_leading_sign word)) && all_ascii_digits (without_leading_sign word)) (fits_i64 (signed_digits_value 10 word)) h in
    let q = and_parts (not (is_empty (without_leading_sign word))) (all_ascii_digits (without_leading_sign word)) p.0 in
    ((length_from_test (without_leading_sign word) q.0, digits_from_test (without_leading_sign word) q.1), fits_from_test (signed_digits_value 10 word) p.1)
