-- What std reads as a u8 without a sign is a code.
use Rattle.std.proofs.Common.{◌≡◌, ℕ, zero, suc, ◌<◌, ◌^◌, true, cond, List, [], ◌∷◌, length, None, Some, Result, Ok, Err, sym, ap, ◌∙◌, arith, leb, get_or, ◌≢◌, lit<}
use Rattle.std.proofs.lemmas.Bool.{and_parts, and_from, leb-true, le-leb, cond-true, cond-false, false_from_ne_true}
use Rattle.std.proofs.lemmas.Str.{IsUtf8-from_ascii}
use Rattle.std.proofs.lemmas.Str.Parse.{tells_all_ascii_digits, IsNumeralModel, numerals_by_value, parse_plain}
use Rattle.std.specs.Result.{result_ok}
use Rattle.std.specs.Str.{all_ascii_digits, IsAscii, IsUtf8}
use Rattle.std.specs.Str.Parse.{ParsesUnsigned, digits_value}
use Rattle.edif_spelling_spec.specs.Strings.{is_code}

pub IsAscii-from_digits : (ds : List ℕ) → all_ascii_digits ds ≡ true → IsAscii ds
IsAscii-from_digits [] h i = lit< tt
IsAscii-from_digits (c ∷ cs) h zero = let d = (tells_all_ascii_digits.parts c cs h).0 in grind arith
IsAscii-from_digits (c ∷ cs) h (suc i) = IsAscii-from_digits cs (tells_all_ascii_digits.parts c cs h).1 i

own : IsNumeralModel (λ ds. all_ascii_digits ds ≡ true) (digits_value 10)
own = numerals_by_value (λ ds. all_ascii_digits ds ≡ true) tells_all_ascii_digits

code_test : (text : List ℕ) → all_ascii_digits text ≡ true → digits_value 10 text < 2 ^ 8 → is_code text ≡ true
code_test text d h = and_from (all_ascii_digits text) (leb (digits_value 10 text) 255) d (le-leb (digits_value 10 text) 255 (omega arith))

pub code_parts : (text : List ℕ) → is_code text ≡ true → (all_ascii_digits text ≡ true) × (digits_value 10 text < 2 ^ 8)
code_parts text h = let p = and_parts (all_ascii_digits text) (leb (digits_value 10 text) 255) h in (p.0, let low = leb-true (digits_value 10 text) 255 p.1 in omega arith)

pub code_from_parse : {E : Type 0} (text : List ℕ) (r : Result ℕ E) → ParsesUnsigned 8 10 text r → get_or text 0 0 ≢ 43 → 0 < length text → result_ok r ≡ cond (is_code text) (Some (digits_value 10 text)) None
code_from_parse {E = E} text (Ok x) h ne l =
    let found = parse_plain own {E = E} 8 text (Ok x) h ne in
    ap Some found.1 ∙ sym (cond-true (is_code text) (Some (digits_value 10 text)) None (code_test text found.0.0 found.0.2))
code_from_parse text (Err e) h ne l =
    let none = parse_plain own 8 text (Err e) h ne in
    sym (cond-false (is_code text) (Some (digits_value 10 text)) None (false_from_ne_true (is_code text) (λ t. none ((code_parts text t).0, l, (code_parts text t).1))))

pub no_code_from_utf8 : (text : List ℕ) → ¬ (IsUtf8 text) → None ≡ cond (is_code text) (Some (digits_value 10 text)) None
no_code_from_utf8 text u =
    sym (cond-false (is_code text) (Some (digits_value 10 text)) None (false_from_ne_true (is_code text) (λ t. u (IsUtf8-from_ascii text (IsAscii-from_digits text (code_parts text t).0)))))
