-- A word that std reads as an i64 is an integer, and no other.
use Rattle.std.proofs.Common.{◌≡◌, ℕ, zero, suc, ◌<◌, true, List, [], ◌∷◌, None, Some, Result, Ok, Err, ℤ, sym, ap, ◌∙◌, arith, lit<}
use Rattle.std.proofs.lemmas.Bool.{and_parts, cond-true, cond-false, false_from_ne_true}
use Rattle.std.specs.Int.{w64}
use Rattle.std.specs.List.{list_all}
use Rattle.std.specs.Result.{result_ok}
use Rattle.std.specs.Str.{IsAscii}
use Rattle.std.specs.Str.Parse.{ParsesSigned, signed_digits_value}
use Rattle.edif_spelling_spec.specs.Bytes.{is_word_byte}
use Rattle.edif_spelling_spec.specs.Words.{integer}
use Rattle.edif_spelling_spec.proofs.IntegerLemmas.{test_of, test_from_numeral, numeral_from_test}

pub integer_from_parse : {E : Type 0} (word : List ℕ) (r : Result ℤ E) → ParsesSigned w64 10 word r → result_ok r ≡ integer word
integer_from_parse word (Ok x) h = ap Some h.1 ∙ sym (cond-true (test_of word) (Some (signed_digits_value 10 word)) None (test_from_numeral word h.0))
integer_from_parse word (Err e) h = sym (cond-false (test_of word) (Some (signed_digits_value 10 word)) None (false_from_ne_true (test_of word) (λ t. h (numeral_from_test word t))))

word_byte_ascii : (b : ℕ) → is_word_byte b ≡ true → b < 128
word_byte_ascii b e = grind arith

pub IsAscii-from_word : (word : List ℕ) → list_all is_word_byte word ≡ true → IsAscii word
IsAscii-from_word [] h i = lit< tt
IsAscii-from_word (b ∷ bs) h zero = word_byte_ascii b (and_parts (is_word_byte b) (list_all is_word_byte bs) h).0
IsAscii-from_word (b ∷ bs) h (suc i) = IsAscii-from_word bs (and_parts (is_word_byte b) (list_all is_word_byte bs) h).1 i
