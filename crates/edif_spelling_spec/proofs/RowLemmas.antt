-- A row of spellings is read as its tokens, and what is read is such a row.
use Rattle.std.proofs.Common.{◌≡◌, ℕ, zero, suc, ◌+◌, ◌<◌, ◌≤◌, Bool, true, false, not, cond, ◌&&◌, ◌||◌, List, [], ◌∷◌, ◌++◌, length, Option, None, Some, Result, Ok, Err, refl, sym, ap, ◌∙◌, subst, arith, append_assoc, append-nil, length-append, eqb, drop, inl, inr, ⊎_elim, add-zero, ℤ, pos, neg_ℤ}
use Rattle.std.proofs.lemmas.Bool.{and_parts, and_from, cases_Bool, cond-true, cond-false, eqb-true, or_left, or_from, not_from_false, not-true, not-false}
use Rattle.std.proofs.lemmas.Option.{cond_some}
use Rattle.std.specs.Char.{is_ascii_digit}
use Rattle.std.specs.List.{list_all}
use Rattle.std.specs.Prelude.{FitsSigned}
use Rattle.std.specs.Int.{w64}
use Rattle.std.specs.Str.{all_ascii_digits}
use Rattle.std.specs.Str.Parse.{IsNumeral, digits_value, without_leading_sign, signed_digits_value}
use Rattle.netlist_schema.specs.Ident.{is_identifier_byte, IsIdentifier}
use Rattle.std.proofs.lemmas.List.Sums.{AllPass-from_list_all, list_all-from_AllPass}
use Rattle.edif_spelling_spec.specs.Bytes.{is_space, is_word_byte, is_quote, is_unquoted, EndsRun}
use Rattle.edif_spelling_spec.specs.Names.{is_empty, is_name}
use Rattle.edif_spelling_spec.specs.Words.{word_kind, integer, identifier, begins_number, or_fault}
use Rattle.edif_spelling_spec.specs.Strings.{segments, value, escape_fault}
use Rattle.edif_spelling_spec.specs.Lexing.{before, lexed, tokens, lex_fault}
use Rattle.edif_spelling_spec.specs.Grammar.{BeginsWithNoDigit, SpellsName, SpellsInteger, SpellsString, SpellsToken, EndsBefore, IsRow}
use Rattle.edif_spelling_spec.specs.declared.token.Token.{Token}
use Rattle.edif_spelling_spec.specs.declared.token.TokenKind.{TokenKind}
use Rattle.edif_spelling_spec.specs.declared.token.TokenKind.TheVariants.{LeftParen, RightParen, Word, Integer, String}
use Rattle.edif_spelling_spec.specs.declared.token.LexKind.{LexKind}
use Rattle.edif_spelling_spec.specs.declared.token.LexKind.TheVariants.{BadNumber, BadByte, BadEscape, BadString}
use Rattle.edif_spelling_spec.proofs.TextLemmas.{stands_value, value_stands}
use Rattle.edif_spelling_spec.proofs.LexedLemmas.{lexed_nil, Span, span, fault_at, lexed_space, lexed_left, lexed_right, lexed_other, lexed_word_ok, lexed_word_bad, lexed_string_ok, lexed_string_bad, lexed_open, lexed_open_bad}
use Rattle.edif_spelling_spec.proofs.IntegerLemmas.{test_of, test_from_numeral, numeral_from_test, digits_test}

-- white space is passed over
pub lexed_gap : (place : ℕ) (gap rest : List ℕ) → list_all is_space gap ≡ true → lexed place 0 (gap ++ rest) ≡ lexed (place + length gap) 0 rest
lexed_gap place [] rest a = ap (λ n. lexed n 0 rest) (sym (add-zero place))
lexed_gap place (b ∷ bs) rest a =
    let parts = and_parts (is_space b) (list_all is_space bs) a in
    lexed_space place b (bs ++ rest) parts.0 ∙ lexed_gap (place + 1) bs rest parts.1 ∙ ap (λ n. lexed n 0 rest) (omega arith)

-- a word that spells a name or an integer
pub record IsWordOf (s : List ℕ) (kind : TokenKind) : Type 0 where
  pub filled : 0 < length s
  pub run : list_all is_word_byte s ≡ true
  pub meant : word_kind s ≡ Ok kind

name_byte_word : (b : ℕ) → is_identifier_byte b ≡ true → is_word_byte b ≡ true
name_byte_word b e = or_left (is_identifier_byte b) (eqb b 38 || (eqb b 43 || eqb b 45)) e

name_byte_no_sign : (b : ℕ) → is_identifier_byte b ≡ true → (eqb b 38 ≡ false) × (eqb b 43 ≡ false) × (eqb b 45 ≡ false)
name_byte_no_sign b e = (grind arith, grind arith, grind arith)

name_run : (name : List ℕ) → list_all is_identifier_byte name ≡ true → list_all is_word_byte name ≡ true
name_run [] a = refl
name_run (b ∷ bs) a = let p = and_parts (is_identifier_byte b) (list_all is_identifier_byte bs) a in and_from (is_word_byte b) (list_all is_word_byte bs) (name_byte_word b p.0) (name_run bs p.1)

name_bytes : (name : List ℕ) → is_name name ≡ true → list_all is_identifier_byte name ≡ true
name_bytes name e = (and_parts (not (is_empty name)) (list_all is_identifier_byte name) e).1

-- the two ways to say that bytes are an identifier
filled_test : (bytes : List ℕ) → 0 < length bytes → not (is_empty bytes) ≡ true
filled_test bytes l = grind arith

filled : (bytes : List ℕ) → not (is_empty bytes) ≡ true → 0 < length bytes
filled bytes e = grind arith

pub is_name-from_identifier : (name : List ℕ) → IsIdentifier name → is_name name ≡ true
is_name-from_identifier name h = and_from (not (is_empty name)) (list_all is_identifier_byte name) (filled_test name h.0) (list_all-from_AllPass is_identifier_byte name h.1)

pub identifier-from_is_name : (name : List ℕ) → is_name name ≡ true → IsIdentifier name
identifier-from_is_name name e =
    let p = and_parts (not (is_empty name)) (list_all is_identifier_byte name) e in
    (filled name p.0, AllPass-from_list_all is_identifier_byte name p.1)

marked_meant : (name : List ℕ) → is_name name ≡ true → word_kind (38 ∷ name) ≡ Ok (Word name)
unfolding word_kind
marked_meant name e = ap (λ t. or_fault Word BadByte (cond t (Some name) None)) e

plain_meant : (b : ℕ) (bs : List ℕ) → is_name (b ∷ bs) ≡ true → is_ascii_digit b ≡ false → word_kind (b ∷ bs) ≡ Ok (Word (b ∷ bs))
unfolding word_kind
plain_meant b bs e d =
    let signs = name_byte_no_sign b (and_parts (is_identifier_byte b) (list_all is_identifier_byte bs) (name_bytes (b ∷ bs) e)).0 in
    let number : begins_number (b ∷ bs) ≡ false = or_from (is_ascii_digit b) (eqb b 43 || eqb b 45) d (or_from (eqb b 43) (eqb b 45) signs.1 signs.2) in
    let named : identifier (b ∷ bs) ≡ Some (b ∷ bs) =
    cond-false (eqb b 38) (cond (is_name bs) (Some bs) None) (cond (is_name (b ∷ bs) && not (is_ascii_digit b)) (Some (b ∷ bs)) None) signs.0
    ∙ cond-true (is_name (b ∷ bs) && not (is_ascii_digit b)) (Some (b ∷ bs)) None (and_from (is_name (b ∷ bs)) (not (is_ascii_digit b)) e (not_from_false (is_ascii_digit b) d)) in
    cond-false (begins_number (b ∷ bs)) (or_fault Integer BadNumber (integer (b ∷ bs))) (or_fault Word BadByte (identifier (b ∷ bs))) number ∙ ap (or_fault Word BadByte) named

plain_word : (name : List ℕ) → is_name name ≡ true → BeginsWithNoDigit name → IsWordOf name (Word name)
plain_word [] e d = cc
plain_word (b ∷ bs) e d = record { filled = omega arith; run = name_run (b ∷ bs) (name_bytes (b ∷ bs) e); meant = plain_meant b bs e d }

pub name_word : (s name : List ℕ) → SpellsName s name → IsWordOf s (Word name)
name_word s name h =
    let W : List ℕ → Type 0 = λ x. IsWordOf x (Word name) in
    let named : is_name name ≡ true = is_name-from_identifier name h.0 in
    ⊎_elim
    (λ marked. subst W (sym marked) (record { filled = omega arith; run = name_run name (name_bytes name named); meant = marked_meant name named }))
    (λ plain. subst W (sym plain.0) (plain_word name named plain.1))
    h.1

integer_of : (s digits : List ℕ) (n : ℤ) → without_leading_sign s ≡ digits → signed_digits_value 10 s ≡ n → IsNumeral 10 digits → FitsSigned w64 n → integer s ≡ Some n
integer_of s digits n d v numeral fits =
    let N : List ℕ → Type 0 = λ x. IsNumeral 10 x in
    let F : ℤ → Type 0 = λ x. FitsSigned w64 x in
    cond-true (test_of s) (Some (signed_digits_value 10 s)) None (test_from_numeral s (subst N (sym d) numeral, subst F (sym v) fits)) ∙ ap Some v

integer_meant : (s : List ℕ) (n : ℤ) → begins_number s ≡ true → integer s ≡ Some n → word_kind s ≡ Ok (Integer n)
unfolding word_kind
integer_meant s n b e = cond-true (begins_number s) (or_fault Integer BadNumber (integer s)) (or_fault Word BadByte (identifier s)) b ∙ ap (or_fault Integer BadNumber) e

digit_no_sign : (b : ℕ) → is_ascii_digit b ≡ true → (eqb b 43 ≡ false) × (eqb b 45 ≡ false) × (is_word_byte b ≡ true)
digit_no_sign b e = (grind arith, grind arith, grind arith)

digits_run : (ds : List ℕ) → all_ascii_digits ds ≡ true → list_all is_word_byte ds ≡ true
digits_run [] a = refl
digits_run (b ∷ bs) a = let p = and_parts (is_ascii_digit b) (all_ascii_digits bs) a in and_from (is_word_byte b) (list_all is_word_byte bs) (digit_no_sign b p.0).2 (digits_run bs p.1)

plain_integer : (digits : List ℕ) (n : ℤ) → IsNumeral 10 digits → FitsSigned w64 n → n ≡ pos (digits_value 10 digits) → IsWordOf digits (Integer n)
plain_integer [] n numeral fits v = let l = numeral.0 in absurd (omega arith)
plain_integer (b ∷ bs) n numeral fits v =
    let all = digits_test (b ∷ bs) numeral.1 in
    let digit = (and_parts (is_ascii_digit b) (all_ascii_digits bs) all).0 in
    let signs = digit_no_sign b digit in
    let unsigned : without_leading_sign (b ∷ bs) ≡ b ∷ bs = ap (λ t. cond t bs (drop (cond (eqb b 43) 1 0) (b ∷ bs))) signs.1 ∙ ap (λ t. drop (cond t 1 0) (b ∷ bs)) signs.0 in
    let worth : signed_digits_value 10 (b ∷ bs) ≡ n =
    ap (λ t. cond t (neg_ℤ (pos (digits_value 10 (without_leading_sign (b ∷ bs))))) (pos (digits_value 10 (without_leading_sign (b ∷ bs))))) signs.1
    ∙ ap (λ x. pos (digits_value 10 x)) unsigned ∙ sym v in
    record {
      filled = omega arith;
      run = digits_run (b ∷ bs) all;
      meant = integer_meant (b ∷ bs) n (or_left (is_ascii_digit b) (eqb b 43 || eqb b 45) digit) (integer_of (b ∷ bs) (b ∷ bs) n unsigned worth numeral fits);
    }

pub integer_word : (s : List ℕ) (n : ℤ) → SpellsInteger s n → IsWordOf s (Integer n)
integer_word s n h =
    let W : List ℕ → Type 0 = λ x. IsWordOf x (Integer n) in
    let digits : List ℕ = h.1.0 in
    let run = digits_run digits (digits_test digits h.1.1.1) in
    ⊎_elim
    (λ plus. ⊎_elim
    (λ none. subst W (sym none) (plain_integer digits n h.1.1 h.0 plus.1))
    (λ sign. subst W (sym sign) (record { filled = omega arith; run = run; meant = integer_meant (43 ∷ digits) n refl (integer_of (43 ∷ digits) digits n refl (sym plus.1) h.1.1 h.0) }))
    plus.0)
    (λ minus. subst W (sym minus.0) (record { filled = omega arith; run = run; meant = integer_meant (45 ∷ digits) n refl (integer_of (45 ∷ digits) digits n refl (sym minus.1) h.1.1 h.0) }))
    h.1.2

lexed_word : (place : ℕ) (s rest : List ℕ) (kind : TokenKind) → IsWordOf s kind → EndsRun is_word_byte rest → lexed place 0 (s ++ rest) ≡ before (record { kind = kind; place = place } ∷ []) (lexed (place + length s) 0 rest)
lexed_word place s rest kind w e = lexed_word_ok place s rest kind w.filled w.run e w.meant

spelled_string : (place : ℕ) (s rest text : List ℕ) → SpellsString s text → lexed place 0 (s ++ rest) ≡ before (record { kind = String text; place = place } ∷ []) (lexed (place + length s) 0 rest)
spelled_string place s rest text h =
    let body : List ℕ = h.0 in
    let stands = stands_value true h.3.0 body text 0 h.3.1 in
    ap (λ x. lexed place 0 (x ++ rest)) h.1 ∙ ap (λ x. lexed place 0 (34 ∷ x)) (append_assoc body (34 ∷ []) rest)
    ∙ lexed_string_ok place body rest h.2 stands.0
    ∙ ap (λ t. before (record { kind = String t; place = place } ∷ []) (lexed (place + length body + 2) 0 rest)) (sym stands.1)
    ∙ ap (λ n. before (record { kind = String text; place = place } ∷ []) (lexed n 0 rest)) (let long = ap length h.1 in omega (arith, length-append body (34 ∷ [])))

-- the spelling of a token is read as that token
pub lexed_spelled : (place : ℕ) (s rest : List ℕ) (kind : TokenKind) → SpellsToken s kind → EndsBefore kind rest → lexed place 0 (s ++ rest) ≡ before (record { kind = kind; place = place } ∷ []) (lexed (place + length s) 0 rest)
lexed_spelled place s rest LeftParen h e = ap (λ x. lexed place 0 (x ++ rest)) h ∙ lexed_left place rest ∙ ap (λ x. before (record { kind = LeftParen; place = place } ∷ []) (lexed (place + length x) 0 rest)) (sym h)
lexed_spelled place s rest RightParen h e = ap (λ x. lexed place 0 (x ++ rest)) h ∙ lexed_right place rest ∙ ap (λ x. before (record { kind = RightParen; place = place } ∷ []) (lexed (place + length x) 0 rest)) (sym h)
lexed_spelled place s rest (Word name) h e = lexed_word place s rest (Word name) (name_word s name h) e
lexed_spelled place s rest (Integer n) h e = lexed_word place s rest (Integer n) (integer_word s n h) e
lexed_spelled place s rest (String text) h e = spelled_string place s rest text h

pub row_is_read : (place : ℕ) (bytes : List ℕ) (ts : List Token) → IsRow place bytes ts → lexed place 0 bytes ≡ record { tokens = ts; fault = None }
row_is_read place bytes [] row = ap (lexed place 0) (sym (append-nil bytes)) ∙ lexed_gap place bytes [] row ∙ lexed_nil (place + length bytes)
row_is_read place bytes (t ∷ ts) row =
    let gap : List ℕ = row.0 in
    let s : List ℕ = row.1 in
    let rest : List ℕ = row.2 in
    ap (lexed place 0) row.3 ∙ lexed_gap place gap (s ++ rest) row.4 ∙ lexed_spelled (place + length gap) s rest t.kind row.6 row.7
    ∙ ap (before (record { kind = t.kind; place = place + length gap } ∷ [])) (row_is_read (place + length gap + length s) rest ts row.8)
    ∙ ap (λ n. record { tokens = record { kind = t.kind; place = n } ∷ ts; fault = None }) (sym row.5)

-- a word that has a meaning spells it
abbrev pub WordSpells : List ℕ → TokenKind → Type 0
WordSpells s kind = SpellsToken s kind × ((rest : List ℕ) → EndsRun is_word_byte rest → EndsBefore kind rest)

signed_spells : (b : ℕ) (bs : List ℕ) (n : ℤ) → IsNumeral 10 (without_leading_sign (b ∷ bs)) → FitsSigned w64 n → signed_digits_value 10 (b ∷ bs) ≡ n → SpellsInteger (b ∷ bs) n
signed_spells b bs n numeral fits v =
    let N : List ℕ → Type 0 = λ x. IsNumeral 10 x in
    let worth : (t : Bool) → eqb b 45 ≡ t → cond t (neg_ℤ (pos (digits_value 10 (without_leading_sign (b ∷ bs))))) (pos (digits_value 10 (without_leading_sign (b ∷ bs)))) ≡ n =
    λ t e. ap (λ x. cond x (neg_ℤ (pos (digits_value 10 (without_leading_sign (b ∷ bs))))) (pos (digits_value 10 (without_leading_sign (b ∷ bs))))) (sym e) ∙ v in
    ⊎_elim
    (λ minus.
    let digits : without_leading_sign (b ∷ bs) ≡ bs = ap (λ t. cond t bs (drop (cond (eqb b 43) 1 0) (b ∷ bs))) minus in
    (fits, (bs, subst N digits numeral, inr (ap (λ x. x ∷ bs) (eqb-true b 45 minus), sym (worth true minus) ∙ ap (λ x. neg_ℤ (pos (digits_value 10 x))) digits))))
    (λ no_minus. ⊎_elim
    (λ plus.
    let digits : without_leading_sign (b ∷ bs) ≡ bs = ap (λ t. cond t bs (drop (cond (eqb b 43) 1 0) (b ∷ bs))) no_minus ∙ ap (λ t. drop (cond t 1 0) (b ∷ bs)) plus in
    (fits, (bs, subst N digits numeral, inl (inr (ap (λ x. x ∷ bs) (eqb-true b 43 plus)), sym (worth false no_minus) ∙ ap (λ x. pos (digits_value 10 x)) digits))))
    (λ no_plus.
    let digits : without_leading_sign (b ∷ bs) ≡ b ∷ bs = ap (λ t. cond t bs (drop (cond (eqb b 43) 1 0) (b ∷ bs))) no_minus ∙ ap (λ t. drop (cond t 1 0) (b ∷ bs)) no_plus in
    (fits, (b ∷ bs, subst N digits numeral, inl (inl refl, sym (worth false no_minus) ∙ ap (λ x. pos (digits_value 10 x)) digits))))
    (cases_Bool (eqb b 43)))
    (cases_Bool (eqb b 45))

pub integer_spells : (b : ℕ) (bs : List ℕ) (n : ℤ) → integer (b ∷ bs) ≡ Some n → SpellsInteger (b ∷ bs) n
integer_spells b bs n e =
    let F : ℤ → Type 0 = λ x. FitsSigned w64 x in
    let found = cond_some (test_of (b ∷ bs)) (signed_digits_value 10 (b ∷ bs)) n e in
    let numeral = numeral_from_test (b ∷ bs) found.0 in
    signed_spells b bs n numeral.0 (subst F found.1 numeral.1) found.1

pub identifier_spells : (b : ℕ) (bs name : List ℕ) → identifier (b ∷ bs) ≡ Some name → SpellsName (b ∷ bs) name
identifier_spells b bs name e =
    let N : List ℕ → Type 0 = λ x. is_name x ≡ true in
    ⊎_elim
    (λ mark.
    let found = cond_some (is_name bs) bs name (sym (cond-true (eqb b 38) (cond (is_name bs) (Some bs) None) (cond (is_name (b ∷ bs) && not (is_ascii_digit b)) (Some (b ∷ bs)) None) mark) ∙ e) in
    (identifier-from_is_name name (subst N found.1 found.0), inl (ap (λ x. x ∷ bs) (eqb-true b 38 mark) ∙ ap (λ x. 38 ∷ x) found.1)))
    (λ no_mark.
    let found = cond_some (is_name (b ∷ bs) && not (is_ascii_digit b)) (b ∷ bs) name (sym (cond-false (eqb b 38) (cond (is_name bs) (Some bs) None) (cond (is_name (b ∷ bs) && not (is_ascii_digit b)) (Some (b ∷ bs)) None) no_mark) ∙ e) in
    let parts = and_parts (is_name (b ∷ bs)) (not (is_ascii_digit b)) found.0 in
    (identifier-from_is_name name (subst N found.1 parts.0), inr (found.1, subst BeginsWithNoDigit found.1 (not-true (is_ascii_digit b) parts.1))))
    (cases_Bool (eqb b 38))

number_case : (b : ℕ) (bs : List ℕ) (kind : TokenKind) (o : Option ℤ) → integer (b ∷ bs) ≡ o → or_fault Integer BadNumber o ≡ Ok kind → WordSpells (b ∷ bs) kind
number_case b bs kind None e k = cc
number_case b bs kind (Some n) e k =
    let W : TokenKind → Type 0 = λ x. WordSpells (b ∷ bs) x in
    let same : Integer n ≡ kind = cc in subst W same (integer_spells b bs n e, λ rest r. r)

name_case : (b : ℕ) (bs : List ℕ) (kind : TokenKind) (o : Option (List ℕ)) → identifier (b ∷ bs) ≡ o → or_fault Word BadByte o ≡ Ok kind → WordSpells (b ∷ bs) kind
name_case b bs kind None e k = cc
name_case b bs kind (Some name) e k =
    let W : TokenKind → Type 0 = λ x. WordSpells (b ∷ bs) x in
    let same : Word name ≡ kind = cc in subst W same (identifier_spells b bs name e, λ rest r. r)

pub word_spells : (b : ℕ) (bs : List ℕ) (kind : TokenKind) → word_kind (b ∷ bs) ≡ Ok kind → WordSpells (b ∷ bs) kind
unfolding word_kind
word_spells b bs kind e = ⊎_elim
    (λ number. number_case b bs kind (integer (b ∷ bs)) refl (sym (cond-true (begins_number (b ∷ bs)) (or_fault Integer BadNumber (integer (b ∷ bs))) (or_fault Word BadByte (identifier (b ∷ bs))) number) ∙ e))
    (λ name. name_case b bs kind (identifier (b ∷ bs)) refl (sym (cond-false (begins_number (b ∷ bs)) (or_fault Integer BadNumber (integer (b ∷ bs))) (or_fault Word BadByte (identifier (b ∷ bs))) name) ∙ e))
    (cases_Bool (begins_number (b ∷ bs)))

-- a row that begins with white space, and one that begins with a token
row_space : (place b : ℕ) (bs : List ℕ) (ts : List Token) → is_space b ≡ true → IsRow (place + 1) bs ts → IsRow place (b ∷ bs) ts
row_space place b bs [] e row = and_from (is_space b) (list_all is_space bs) e row
row_space place b bs (t ∷ ts) e row =
    let R : ℕ → Type 0 = λ n. IsRow n row.2 ts in (
      b ∷ row.0,
      row.1,
      row.2,
      ap (λ l. b ∷ l) row.3,
      and_from (is_space b) (list_all is_space row.0) e row.4,
      row.5 ∙ omega arith,
      row.6,
      row.7,
      let moved : place + 1 + length row.0 + length row.1 ≡ place + length (b ∷ row.0) + length row.1 = omega arith in subst R moved row.8,
    )

row_token : (place : ℕ) (s rest : List ℕ) (kind : TokenKind) (ts : List Token) → SpellsToken s kind → EndsBefore kind rest → IsRow (place + length s) rest ts → IsRow place (s ++ rest) (record { kind = kind; place = place } ∷ ts)
row_token place s rest kind ts sp e row =
    let R : ℕ → Type 0 = λ n. IsRow n rest ts in
    ([], s, rest, refl, refl, sym (add-zero place), sp, e, let moved : place + length s ≡ place + 0 + length s = omega arith in subst R moved row)

-- each text of at most k bytes that has no fault is a row
abbrev Rows : ℕ → Type 0
Rows k = (place : ℕ) (bytes : List ℕ) → length bytes ≤ k → (lexed place 0 bytes).fault ≡ None → IsRow place bytes (lexed place 0 bytes).tokens

step_token : (k place : ℕ) (bytes s rest : List ℕ) (kind : TokenKind) → Rows k → bytes ≡ s ++ rest → 0 < length s → length bytes ≤ suc k → SpellsToken s kind → EndsBefore kind rest → (lexed place 0 bytes).fault ≡ None → IsRow place bytes (lexed place 0 bytes).tokens
step_token k place bytes s rest kind rows e l m sp ends none =
    let read : lexed place 0 bytes ≡ before (record { kind = kind; place = place } ∷ []) (lexed (place + length s) 0 rest) = ap (lexed place 0) e ∙ lexed_spelled place s rest kind sp ends in
    let long = ap length e in
    let shorter : length rest ≤ k = omega (arith, length-append s rest) in
    let row = rows (place + length s) rest shorter (sym (ap (λ x. x.fault) read) ∙ none) in
    let R : List ℕ → List Token → Type 0 = λ x ts. IsRow place x ts in
    let B : List ℕ → Type 0 = λ x. IsRow place x (record { kind = kind; place = place } ∷ (lexed (place + length s) 0 rest).tokens) in
    let T : List Token → Type 0 = λ ts. IsRow place bytes ts in
    subst T (sym (ap (λ x. x.tokens) read)) (subst B (sym e) (row_token place s rest kind (lexed (place + length s) 0 rest).tokens sp ends row))

step_space : (k place b : ℕ) (bs : List ℕ) → Rows k → is_space b ≡ true → length (b ∷ bs) ≤ suc k → (lexed place 0 (b ∷ bs)).fault ≡ None → IsRow place (b ∷ bs) (lexed place 0 (b ∷ bs)).tokens
step_space k place b bs rows e m none =
    let read = lexed_space place b bs e in
    let T : List Token → Type 0 = λ ts. IsRow place (b ∷ bs) ts in
    subst T (sym (ap (λ x. x.tokens) read)) (row_space place b bs (lexed (place + 1) 0 bs).tokens e (rows (place + 1) bs (omega arith) (sym (ap (λ x. x.fault) read) ∙ none)))

-- a fault is not none
pub faulty : {X : Type 0} (bytes : List ℕ) (place at : ℕ) (kind : LexKind) → lexed place 0 bytes ≡ fault_at kind at → (lexed place 0 bytes).fault ≡ None → X
faulty bytes place at kind e none = let both = sym (ap (λ x. x.fault) e) ∙ none in cc

step_word_kind : (k place : ℕ) (bytes : List ℕ) (b : ℕ) (bs rest : List ℕ) (r : Result TokenKind LexKind) → Rows k → bytes ≡ (b ∷ bs) ++ rest → list_all is_word_byte (b ∷ bs) ≡ true → EndsRun is_word_byte rest → word_kind (b ∷ bs) ≡ r → length bytes ≤ suc k → (lexed place 0 bytes).fault ≡ None → IsRow place bytes (lexed place 0 bytes).tokens
step_word_kind k place bytes b bs rest (Ok kind) rows e a ends w m none =
    let sp = word_spells b bs kind w in step_token k place bytes (b ∷ bs) rest kind rows e (omega arith) m sp.0 (sp.1 rest ends) none
step_word_kind k place bytes b bs rest (Err fault) rows e a ends w m none =
    faulty bytes place place fault (ap (lexed place 0) e ∙ lexed_word_bad place (b ∷ bs) rest fault (omega arith) a ends w) none

step_word : (k place b : ℕ) (bs : List ℕ) → Rows k → is_word_byte b ≡ true → Span is_word_byte bs → length (b ∷ bs) ≤ suc k → (lexed place 0 (b ∷ bs)).fault ≡ None → IsRow place (b ∷ bs) (lexed place 0 (b ∷ bs)).tokens
step_word k place b bs rows e s m none =
    step_word_kind k place (b ∷ bs) b s.run s.rest (word_kind (b ∷ s.run)) rows (ap (λ l. b ∷ l) s.whole) (and_from (is_word_byte b) (list_all is_word_byte s.run) e s.passes) s.ends refl m none

step_closed : (k place : ℕ) (bs body more : List ℕ) (o : Option ℕ) → Rows k → bs ≡ body ++ 34 ∷ more → is_unquoted body ≡ true → escape_fault true 0 (segments body) ≡ o → length (34 ∷ bs) ≤ suc k → (lexed place 0 (34 ∷ bs)).fault ≡ None → IsRow place (34 ∷ bs) (lexed place 0 (34 ∷ bs)).tokens
step_closed k place bs body more None rows e u f m none =
    let text : List ℕ = value (segments body) in
    step_token k place (34 ∷ bs) (34 ∷ (body ++ 34 ∷ [])) more (String text) rows (ap (λ l. 34 ∷ l) (e ∙ sym (append_assoc body (34 ∷ []) more))) (omega arith) m (body, refl, u, value_stands body f) tt none
step_closed k place bs body more (Some at) rows e u f m none =
    faulty (34 ∷ bs) place (place + at + 1) BadEscape (ap (λ l. lexed place 0 (34 ∷ l)) e ∙ lexed_string_bad place body more at u f) none

step_open : (place : ℕ) (bs body : List ℕ) (o : Option ℕ) {X : Type 0} → bs ≡ body → is_unquoted body ≡ true → escape_fault false 0 (segments body) ≡ o → (lexed place 0 (34 ∷ bs)).fault ≡ None → X
step_open place bs body None e u f none = faulty (34 ∷ bs) place place BadString (ap (λ l. lexed place 0 (34 ∷ l)) e ∙ lexed_open place body u f) none
step_open place bs body (Some at) e u f none = faulty (34 ∷ bs) place (place + at + 1) BadEscape (ap (λ l. lexed place 0 (34 ∷ l)) e ∙ lexed_open_bad place body at u f) none

step_string_rest : (k place : ℕ) (bs body rest : List ℕ) → Rows k → bs ≡ body ++ rest → is_unquoted body ≡ true → EndsRun (λ x. not (is_quote x)) rest → length (34 ∷ bs) ≤ suc k → (lexed place 0 (34 ∷ bs)).fault ≡ None → IsRow place (34 ∷ bs) (lexed place 0 (34 ∷ bs)).tokens
step_string_rest k place bs body [] rows e u ends m none = step_open place bs body (escape_fault false 0 (segments body)) (e ∙ append-nil body) u refl none
step_string_rest k place bs body (c ∷ more) rows e u ends m none =
    let quote : c ≡ 34 = eqb-true c 34 (not-false (is_quote c) ends) in
    step_closed k place bs body more (escape_fault true 0 (segments body)) rows (e ∙ ap (λ x. body ++ x ∷ more) quote) u refl m none

step_string : (k place b : ℕ) (bs : List ℕ) → Rows k → is_quote b ≡ true → Span (λ x. not (is_quote x)) bs → length (b ∷ bs) ≤ suc k → (lexed place 0 (b ∷ bs)).fault ≡ None → IsRow place (b ∷ bs) (lexed place 0 (b ∷ bs)).tokens
step_string k place b bs rows e s m none =
    let P : ℕ → Type 0 = λ x. (lexed place 0 (x ∷ bs)).fault ≡ None → IsRow place (x ∷ bs) (lexed place 0 (x ∷ bs)).tokens in
    subst P (sym (eqb-true b 34 e)) (λ none'. step_string_rest k place bs s.run s.rest rows s.whole s.passes s.ends (omega arith) none') none

step_paren : (k place b c : ℕ) (bs : List ℕ) (kind : TokenKind) → Rows k → b ≡ c → SpellsToken (c ∷ []) kind → EndsBefore kind bs → length (b ∷ bs) ≤ suc k → (lexed place 0 (b ∷ bs)).fault ≡ None → IsRow place (b ∷ bs) (lexed place 0 (b ∷ bs)).tokens
step_paren k place b c bs kind rows e sp ends m none = step_token k place (b ∷ bs) (c ∷ []) bs kind rows (ap (λ x. x ∷ bs) e) (omega arith) m sp ends none

rows_step : (k : ℕ) → Rows k → (place b : ℕ) (bs : List ℕ) → length (b ∷ bs) ≤ suc k → (lexed place 0 (b ∷ bs)).fault ≡ None → IsRow place (b ∷ bs) (lexed place 0 (b ∷ bs)).tokens
rows_step k rows place b bs m none = ⊎_elim
    (λ space. step_space k place b bs rows space m none)
    (λ no_space. ⊎_elim
    (λ left. step_paren k place b 40 bs LeftParen rows (eqb-true b 40 left) refl tt m none)
    (λ no_left. ⊎_elim
    (λ right. step_paren k place b 41 bs RightParen rows (eqb-true b 41 right) refl tt m none)
    (λ no_right. ⊎_elim
    (λ quote. step_string k place b bs rows quote (span (λ x. not (is_quote x)) bs) m none)
    (λ no_quote. ⊎_elim
    (λ word. step_word k place b bs rows word (span is_word_byte bs) m none)
    (λ no_word. faulty (b ∷ bs) place place BadByte (lexed_other place b bs no_space no_left no_right no_quote no_word) none)
    (cases_Bool (is_word_byte b)))
    (cases_Bool (is_quote b)))
    (cases_Bool (eqb b 41)))
    (cases_Bool (eqb b 40)))
    (cases_Bool (is_space b))

all_rows : (k : ℕ) → Rows k
unfolding lexed
all_rows k place [] l none = refl
all_rows zero place (b ∷ bs) l none = absurd (omega arith)
all_rows (suc k) place (b ∷ bs) l none = rows_step k (all_rows k) place b bs l none

pub read_is_row : (bytes : List ℕ) → lex_fault bytes ≡ None → IsRow 0 bytes (tokens bytes)
read_is_row bytes none = all_rows (length bytes) 0 bytes (omega arith) none
