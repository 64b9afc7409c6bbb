-- What std reads as a number or an integer is spelled, and no other word; and what stands between quotes.
use Rattle.std.proofs.Common.{◌≡◌, ◌∙◌, ℕ, ◌<◌, ◌^◌, Bool, true, false, cond, List, [], ◌∷◌, ◌++◌, drop, None, Some, Result, Ok, Err, ℤ, refl, sym, ap, subst}
use Rattle.std.specs.Prelude.{Option, MatchOption, ◌==◌, slice_index}
use Rattle.std.specs.Str.{IsUtf8}
use Rattle.std.specs.Str.Parse.{IsNumeral, ParsesUnsigned, digits_value, without_leading_plus}
use Rattle.std.proofs.lemmas.Str.{IsUtf8-from_ascii}
use Rattle.edif_spelling_spec.specs.Bytes.{is_unquoted}
use Rattle.edif_spelling_spec.specs.Grammar.{SpellsInteger, SpellsString, StandsFor}
use Rattle.edif_spelling_spec.specs.Strings.{escape_fault, segments, value}
use Rattle.edif_spelling_spec.specs.Words.{begins_number, identifier, integer, or_fault, word_kind}
use Rattle.edif_spelling_spec.specs.declared.token.LexKind.TheVariants.{BadByte, BadNumber}
use Rattle.edif_spelling_spec.specs.declared.token.TokenKind.TheVariants as kinds
use Rattle.edif_spelling_spec.proofs.IntegerLemmas.{digits_test}
use Rattle.edif_spelling_spec.proofs.RowLemmas.{integer_spells, integer_word}
use Rattle.edif_spelling_spec.proofs.TextLemmas.{stands_value, value_stands}
use Rattle.edif_spelling_spec.proofs.ParseLemmas.{IsAscii-from_word}
use Rattle.edif_lexer.proofs.CodeLemmas.{IsAscii-from_digits}
use Rattle.script_words.specs.Reading.{IsBetween}

-- ---- numbers

plain : (word : List ℕ) → (slice_index word 0 == 43) ≡ false → without_leading_plus word ≡ word
plain word e = ap (λ t. drop (cond t 1 0) word) e

pub number_read : {E : Type 0} (word : List ℕ) (r : Result ℕ E) → ParsesUnsigned 64 10 word r → (slice_index word 0 == 43) ≡ false
    → (n : ℕ) → r ≡ Ok n → IsNumeral 10 word × (n ≡ digits_value 10 word)
number_read {E = E} word r p e n q =
    let h : ParsesUnsigned {E = E} 64 10 word (Ok n) = subst (λ (x : Result ℕ E). ParsesUnsigned 64 10 word x) q p in
    (subst (λ (w : List ℕ). IsNumeral 10 w) (plain word e) h.0.0, h.1 ∙ ap (digits_value 10) (plain word e))

pub no_number : {E : Type 0} (word : List ℕ) (err : E) → ParsesUnsigned 64 10 word (Err err) → (slice_index word 0 == 43) ≡ false
    → ¬ (IsNumeral 10 word × (digits_value 10 word < 2 ^ 64))
no_number word err p e h =
    let Q : List ℕ → Type 0 = λ w. IsNumeral 10 w × (digits_value 10 w < 2 ^ 64) in
    p (subst Q (sym (plain word e)) h)

pub numeral_utf8 : (word : List ℕ) → IsNumeral 10 word → IsUtf8 word
numeral_utf8 word h = IsUtf8-from_ascii word (IsAscii-from_digits word (digits_test word h.1))

-- ---- integers

from_kind : (t : Bool) (i : Option ℤ) (n : Option (List ℕ)) (z : ℤ) → cond t (or_fault kinds.Integer BadNumber i) (or_fault kinds.Word BadByte n) ≡ Ok (kinds.Integer z) → i ≡ Some z
from_kind true (Some y) n z e = cc (e)
from_kind true None n z e = absurd (cc (e))
from_kind false i (Some w) z e = absurd (cc (e))
from_kind false i None z e = absurd (cc (e))

pub integer_of : (word : List ℕ) (z : ℤ) → SpellsInteger word z → integer word ≡ Some z
unfolding word_kind
integer_of word z s = from_kind (begins_number word) (integer word) (identifier word) z (integer_word word z s).meant

pub spells_integer : (word : List ℕ) (z : ℤ) → integer word ≡ Some z → SpellsInteger word z
spells_integer [] z e = absurd (cc (e))
spells_integer (b ∷ bs) z e = integer_spells b bs z e

pub none_of_utf8 : (word : List ℕ) → ¬ IsUtf8 word → None ≡ integer word
none_of_utf8 word n = decide (integer word) refl
  where
    decide : (found : Option ℤ) → integer word ≡ found → None ≡ found
    decide None e = refl
    decide (Some z) e = absurd (n (IsUtf8-from_ascii word (IsAscii-from_word word (integer_word word z (spells_integer word z e)).run)))

pub no_integer : (word : List ℕ) → None ≡ integer word → (z : ℤ) → ¬ SpellsInteger word z
no_integer word e z s = let wrong : None ≡ Some z = e ∙ integer_of word z s in cc (wrong)

pub integer_found : (word : List ℕ) (found : Option ℤ) → found ≡ integer word → MatchOption found ((z : ℤ) → ¬ SpellsInteger word z) (SpellsInteger word)
integer_found word (Some z) e = spells_integer word z (sym e)
integer_found word None e = no_integer word e

-- ---- strings

snoc_parts : (xs ys : List ℕ) (x y : ℕ) → xs ++ x ∷ [] ≡ ys ++ y ∷ [] → (xs ≡ ys) × (x ≡ y)
snoc_parts [] [] x y e = (refl, cc (e))
snoc_parts [] (b ∷ []) x y e = absurd (cc (e))
snoc_parts [] (b ∷ c ∷ ys) x y e = absurd (cc (e))
snoc_parts (a ∷ []) [] x y e = absurd (cc (e))
snoc_parts (a ∷ b ∷ xs) [] x y e = absurd (cc (e))
snoc_parts (a ∷ xs) (b ∷ ys) x y e =
    let heads : a ≡ b = cc (e) in
    let tails : xs ++ x ∷ [] ≡ ys ++ y ∷ [] = cc (e) in
    let rest = snoc_parts xs ys x y tails in
    (ap (λ c. c ∷ xs) heads ∙ ap (λ l. b ∷ l) rest.0, rest.1)

-- a word's first and last byte, and what stands between them
between_parts : (word rest body other : List ℕ) (first last : ℕ) → word ≡ first ∷ rest → rest ≡ body ++ last ∷ [] → IsBetween word other → (first ≡ 34) × (last ≡ 34) × (body ≡ other)
between_parts word rest body other first last e f b =
    let whole : first ∷ rest ≡ 34 ∷ (other ++ 34 ∷ []) = sym e ∙ b.0 in
    let heads : first ≡ 34 = cc (whole) in
    let tails : rest ≡ other ++ 34 ∷ [] = cc (whole) in
    let ends = snoc_parts body other last 34 (sym f ∙ tails) in
    (heads, ends.1, ends.0)

pub is_between : (word rest body : List ℕ) (first last : ℕ) → word ≡ first ∷ rest → rest ≡ body ++ last ∷ [] → first ≡ 34 → last ≡ 34 → is_unquoted body ≡ true → IsBetween word body
is_between word rest body first last e f p q u = (e ∙ ap (λ b. b ∷ rest) p ∙ ap (λ l. 34 ∷ l) (f ∙ ap (λ b. body ++ b ∷ []) q), u)

pub not_first : (word rest body : List ℕ) (first last : ℕ) → word ≡ first ∷ rest → rest ≡ body ++ last ∷ [] → (first ≡ 34 → ⊥) → (other : List ℕ) → ¬ IsBetween word other
not_first word rest body first last e f n other b = n (between_parts word rest body other first last e f b).0

pub not_last : (word rest body : List ℕ) (first last : ℕ) → word ≡ first ∷ rest → rest ≡ body ++ last ∷ [] → (last ≡ 34 → ⊥) → (other : List ℕ) → ¬ IsBetween word other
not_last word rest body first last e f n other b = n (between_parts word rest body other first last e f b).1

pub not_inside : (word rest body : List ℕ) (first last : ℕ) → word ≡ first ∷ rest → rest ≡ body ++ last ∷ [] → is_unquoted body ≡ false → (other : List ℕ) → ¬ IsBetween word other
not_inside word rest body first last e f n other b =
    let same : body ≡ other = (between_parts word rest body other first last e f b).2 in
    let wrong : true ≡ false = sym b.1 ∙ ap is_unquoted (sym same) ∙ n in
    absurd (cc (wrong))

pub not_empty : (word : List ℕ) → word ≡ [] → (other : List ℕ) → ¬ IsBetween word other
not_empty word e other b = let wrong : [] ≡ 34 ∷ (other ++ 34 ∷ []) = sym e ∙ b.0 in cc (wrong)

pub not_single : (word rest : List ℕ) (first : ℕ) → word ≡ first ∷ rest → rest ≡ [] → (other : List ℕ) → ¬ IsBetween word other
not_single word rest first e f other b =
    let whole : first ∷ rest ≡ 34 ∷ (other ++ 34 ∷ []) = sym e ∙ b.0 in
    let tails : rest ≡ other ++ 34 ∷ [] = cc (whole) in
    never other (sym f ∙ tails)
  where
    never : (xs : List ℕ) → [] ≡ xs ++ 34 ∷ [] → ⊥
    never [] q = cc (q)
    never (x ∷ xs) q = cc (q)

pub no_string : (word body : List ℕ) (at : ℕ) → IsBetween word body → escape_fault true 0 (segments body) ≡ Some at → (text : List ℕ) → ¬ SpellsString word text
no_string word body at b f text s =
    let whole : 34 ∷ (body ++ 34 ∷ []) ≡ 34 ∷ (s.0 ++ 34 ∷ []) = sym b.0 ∙ s.1 in
    let tails : body ++ 34 ∷ [] ≡ s.0 ++ 34 ∷ [] = cc (whole) in
    let same : s.0 ≡ body = sym (snoc_parts body s.0 34 34 tails).0 in
    let none : escape_fault true 0 (segments s.0) ≡ None = (stands_value true s.3.0 s.0 text 0 s.3.1).0 in
    let wrong : None ≡ Some at = sym none ∙ ap (λ l. escape_fault true 0 (segments l)) same ∙ f in
    cc (wrong)

pub spells_string : (word body text : List ℕ) → IsBetween word body → escape_fault true 0 (segments body) ≡ None → text ≡ value (segments body) → SpellsString word text
spells_string word body text b none e = (body, b.0, b.1, (let found = value_stands body none in (found.0, subst (λ (t : List ℕ). StandsFor found.0 body t) (sym e) found.1)))
