-- Which tokens are complete in the bytes of a lexer.
use Rattle.std.proofs.Common.{◌≡◌, ℕ, Bool, true, false, not, cond, ◌&&◌, List, [], ◌∷◌, ◌++◌, Option, None, Some, Result, Err, refl, sym, ap, ◌∙◌, arith, append-nil, eqb, drop, lit<, ⊎_elim}
use Rattle.std.proofs.lemmas.List.Folds.{list_all-append}
use Rattle.std.proofs.lemmas.Bool.{and_from, and_left, and_right, cond-false, cond-true, eqb-true, cases_Bool}
use Rattle.std.specs.Char.{is_ascii_digit}
use Rattle.std.specs.Str.{all_ascii_digits}
use Rattle.std.specs.Str.Parse.{without_leading_sign, signed_digits_value}
use Rattle.std.specs.List.{list_all}
use Rattle.netlist_schema.specs.Ident.{is_identifier_byte}
use Rattle.edif_spelling_spec.specs.Bytes.{is_word_byte, is_quote, is_unquoted}
use Rattle.edif_spelling_spec.specs.Names.{is_empty, is_name}
use Rattle.edif_spelling_spec.specs.Strings.{segments, escape_fault}
use Rattle.edif_spelling_spec.specs.Words.{word_kind, integer, identifier, fits_i64, begins_number, or_fault}
use Rattle.edif_spelling_spec.specs.declared.token.TokenKind.{TokenKind}
use Rattle.edif_spelling_spec.specs.declared.token.TokenKind.TheVariants.{Word, Integer}
use Rattle.edif_spelling_spec.specs.declared.token.LexKind.{LexKind}
use Rattle.edif_spelling_spec.specs.declared.token.LexKind.TheVariants.{BadNumber, BadByte}
use Rattle.edif_spelling_spec.proofs.LexedLemmas.{lexed_word_bad, lexed_open, lexed_open_bad}
use Rattle.edif_spelling_spec.specs.Lexing.{before, lexed}
use Rattle.edif_lexer.specs.Reading.{Reading, ahead, is_pending, AreComplete}
use Rattle.edif_spelling_spec.specs.declared.token.Token.{Token}

cond_same : (t : Bool) → cond t (let n : Option (List ℕ) = None in n) None ≡ None
cond_same true = refl
cond_same false = refl

err_cond : (t : Bool) → cond t (let r : Result TokenKind LexKind = Err BadNumber in r) (Err BadByte) ≡ Err (cond t BadNumber BadByte)
err_cond true = refl
err_cond false = refl

lone : word_kind (43 ∷ []) ≡ Err BadNumber
unfolding word_kind
lone = refl

open_stops : (place : ℕ) (body : List ℕ) → is_unquoted body ≡ true → (fault : Option ℕ) → escape_fault false 0 (segments body) ≡ fault → (lexed place 0 (34 ∷ body)).tokens ≡ []
open_stops place body u None e = ap (λ l. l.tokens) (lexed_open place body u e)
open_stops place body u (Some at) e = ap (λ l. l.tokens) (lexed_open_bad place body at u e)

-- a test that each byte passes, and one more
pub all_push : (p : ℕ → Bool) (xs : List ℕ) (b : ℕ) → list_all p xs ≡ true → p b ≡ true → list_all p (xs ++ b ∷ []) ≡ true
all_push p xs b a e = list_all-append p xs (b ∷ []) ∙ and_from (list_all p xs) (p b && true) a (and_from (p b) true e refl)

-- a test that fails at a plus fails on what ends with one
all_plus : (p : ℕ → Bool) (xs : List ℕ) → p 43 ≡ false → list_all p (xs ++ 43 ∷ []) ≡ false
all_plus p [] e = and_left (p 43) true e
all_plus p (x ∷ xs) e = and_right (p x) (list_all p (xs ++ 43 ∷ [])) (all_plus p xs e)

digits_plus : (xs : List ℕ) → all_ascii_digits (xs ++ 43 ∷ []) ≡ false
digits_plus [] = refl
digits_plus (x ∷ xs) = and_right (is_ascii_digit x) (all_ascii_digits (xs ++ 43 ∷ [])) (digits_plus xs)

unsigned_plus : (b : ℕ) (bs : List ℕ) (minus plus : Bool) → all_ascii_digits (cond minus (drop 1 (b ∷ (bs ++ 43 ∷ []))) (drop (cond plus 1 0) (b ∷ (bs ++ 43 ∷ [])))) ≡ false
unsigned_plus b bs true plus = digits_plus bs
unsigned_plus b bs false true = digits_plus bs
unsigned_plus b bs false false = digits_plus (b ∷ bs)

no_integer : (b : ℕ) (bs : List ℕ) → integer (b ∷ (bs ++ 43 ∷ [])) ≡ None
no_integer b bs =
    let word : List ℕ = b ∷ (bs ++ 43 ∷ []) in
    let digits : all_ascii_digits (without_leading_sign word) ≡ false = unsigned_plus b bs (eqb b 45) (eqb b 43) in
    cond-false ((not (is_empty (without_leading_sign word)) && all_ascii_digits (without_leading_sign word)) && fits_i64 (signed_digits_value 10 word)) (Some (signed_digits_value 10 word)) None
    (and_left _ (fits_i64 (signed_digits_value 10 word)) (and_right (not (is_empty (without_leading_sign word))) _ digits))

no_name : (xs : List ℕ) → is_name (xs ++ 43 ∷ []) ≡ false
no_name xs = and_right (not (is_empty (xs ++ 43 ∷ []))) (list_all is_identifier_byte (xs ++ 43 ∷ [])) (all_plus is_identifier_byte xs refl)

no_identifier : (b : ℕ) (bs : List ℕ) → identifier (b ∷ (bs ++ 43 ∷ [])) ≡ None
no_identifier b bs =
    let outer : List ℕ = b ∷ (bs ++ 43 ∷ []) in
    let first : cond (is_name (bs ++ 43 ∷ [])) (Some (bs ++ 43 ∷ [])) None ≡ None = cond-false (is_name (bs ++ 43 ∷ [])) (Some (bs ++ 43 ∷ [])) None (no_name bs) in
    let second : cond (is_name outer && not (is_ascii_digit b)) (Some outer) None ≡ None = cond-false (is_name outer && not (is_ascii_digit b)) (Some outer) None (and_left (is_name outer) (not (is_ascii_digit b)) (no_name (b ∷ bs))) in
    ap (λ o. cond (eqb b 38) o (cond (is_name outer && not (is_ascii_digit b)) (Some outer) None)) first ∙ ap (cond (eqb b 38) None) second ∙ cond_same (eqb b 38)

word_plus : (b : ℕ) (bs : List ℕ) → (fault : LexKind) × (word_kind (b ∷ (bs ++ 43 ∷ [])) ≡ Err fault)
unfolding word_kind
word_plus b bs =
    let e : word_kind (b ∷ (bs ++ 43 ∷ [])) ≡ cond (begins_number (b ∷ (bs ++ 43 ∷ []))) (Err BadNumber) (Err BadByte) =
    ap (λ o. cond (begins_number (b ∷ (bs ++ 43 ∷ []))) (or_fault Integer BadNumber o) (or_fault Word BadByte (identifier (b ∷ (bs ++ 43 ∷ []))))) (no_integer b bs)
    ∙ ap (λ o. cond (begins_number (b ∷ (bs ++ 43 ∷ []))) (Err BadNumber) (or_fault Word BadByte o)) (no_identifier b bs) in
    (cond (begins_number (b ∷ (bs ++ 43 ∷ []))) BadNumber BadByte, e ∙ err_cond (begins_number (b ∷ (bs ++ 43 ∷ []))))

lone_plus : (place : ℕ) → (lexed place 0 (43 ∷ [])).tokens ≡ []
lone_plus place = ap (λ l. l.tokens) (lexed_word_bad place (43 ∷ []) [] BadNumber (lit< tt) refl tt lone)

-- A plus ends no token: a word that goes on with it is a fault, and so is a string that has no closing quote.
pub plus_stops : (place : ℕ) (p : List ℕ) → is_pending p ≡ true → (lexed place 0 (p ++ 43 ∷ [])).tokens ≡ []
plus_stops place [] e = lone_plus place
plus_stops place (b ∷ bs) e = ⊎_elim
    (λ quote.
    let body : is_unquoted (bs ++ 43 ∷ []) ≡ true = all_push (λ x. not (is_quote x)) bs 43 (sym (cond-true (is_quote b) (is_unquoted bs) (list_all is_word_byte (b ∷ bs)) quote) ∙ e) refl in
    ap (λ x. (lexed place 0 (x ∷ (bs ++ 43 ∷ []))).tokens) (eqb-true b 34 quote) ∙ open_stops place (bs ++ 43 ∷ []) body (escape_fault false 0 (segments (bs ++ 43 ∷ []))) refl)
    (λ other.
    let word : list_all is_word_byte (b ∷ (bs ++ 43 ∷ [])) ≡ true = all_push is_word_byte (b ∷ bs) 43 (sym (cond-false (is_quote b) (is_unquoted bs) (list_all is_word_byte (b ∷ bs)) other) ∙ e) refl in
    let bad = word_plus b bs in
    ap (λ x. (lexed place 0 x).tokens) (sym (append-nil (b ∷ (bs ++ 43 ∷ [])))) ∙ ap (λ l. l.tokens) (lexed_word_bad place (b ∷ (bs ++ 43 ∷ [])) [] bad.0 (omega arith) word tt bad.1))
    (cases_Bool (is_quote b))

pub are_complete : (reading : Reading) (fed : List ℕ) (handed : List Token) → is_pending reading.pending ≡ true → ((more : List ℕ) → lexed 0 0 (fed ++ more) ≡ before handed (ahead reading more)) → AreComplete fed handed
are_complete reading fed handed p rest = record {
  first = λ more. ((ahead reading more).tokens, ap (λ x. x.tokens) (rest more));
  all = λ others common. let l = common (43 ∷ []) in (l.0, sym (ap (λ x. x.tokens) (rest (43 ∷ [])) ∙ ap (λ ts. handed ++ ts) (plus_stops reading.start reading.pending p) ∙ append-nil handed) ∙ l.1);
}
