-- The text of a string spells it.
use Rattle.std.proofs.Common.{◌≡◌, ℕ, ◌<◌, List, [], ◌∷◌, ◌++◌, refl, ap, sym, ◌∙◌, append_assoc, Bool, true, false, not, arith}
use Rattle.std.specs.Prelude.{cond, decimal}
use Rattle.std.specs.Char.{digit_value}
use Rattle.std.specs.List.{AllByRecursion}
use Rattle.std.specs.Str.Parse.{AllDigits}
use Rattle.std.proofs.lemmas.Bool.{and_from}
use Rattle.std.proofs.lemmas.Bool.Decides.{nat_tests}
use Rattle.std.proofs.lemmas.Fmt.{decimal_is_IsNumeral}
use Rattle.std.proofs.lemmas.List.Elements.{recursion_from_All}
use Rattle.netlist_schema.specs.Typed.{IsBytes}
use Rattle.edif_spelling_spec.specs.Bytes.{is_quote, is_percent, is_unquoted, has_no_percent}
use Rattle.edif_spelling_spec.specs.Grammar.{EndsCode, IsCodes, StandsFor, SpellsString}
use Rattle.edif_spelling_spec.proofs.FaultLemmas.{all_append}
use Rattle.edif_spec.specs.Canonical.{string_text, plain_text, coded_text, is_plain}

-- The codes that are open go on in these bytes, and end with a `%`, behind which stands what the rest stands for.
record GoesOn (bytes value : List ℕ) : Type 0 where
  pub tail : List ℕ
  pub codes : List ℕ
  pub rest : List ℕ
  pub more : List ℕ
  pub others : List (List ℕ)
  pub body : bytes ≡ tail ++ 37 ∷ rest
  pub text : value ≡ codes ++ more
  pub ends : EndsCode tail
  pub are : IsCodes tail codes
  pub stands : StandsFor others rest more

abbrev Stands : List ℕ → List ℕ → Type 0
Stands body text = (escapes : List (List ℕ)) × StandsFor escapes body text

-- a byte other than `%` stands for itself
one_plain : (b : ℕ) (body text : List ℕ) → is_percent b ≡ false → Stands body text → Stands (b ∷ body) (b ∷ text)
one_plain b body text n h = go h.0 h.1
  where
    go : (escapes : List (List ℕ)) → StandsFor escapes body text → Stands (b ∷ body) (b ∷ text)
    go [] s = ([], (and_from (not (is_percent b)) (has_no_percent body) (ap not n) s.0, ap (λ v. b ∷ v) s.1))
    go (codes ∷ others) s = (codes ∷ others, (b ∷ s.0, s.1, s.2, s.3, ap (λ v. b ∷ v) s.4, and_from (not (is_percent b)) (has_no_percent s.0) (ap not n) s.5, s.6, ap (λ v. b ∷ v) s.7, s.8))

-- a code opens an escape
one_escape : (b : ℕ) (body text : List ℕ) → b < 256 → GoesOn body text → Stands (37 ∷ (decimal b ++ body)) (b ∷ text)
one_escape b body text h g =
    let d = decimal_is_IsNumeral b (omega arith) in
    let parts : 37 ∷ (decimal b ++ body) ≡ 37 ∷ ((decimal b ++ g.tail) ++ 37 ∷ g.rest) = ap (λ v. 37 ∷ v) (ap (λ v. decimal b ++ v) g.body ∙ sym (append_assoc (decimal b) g.tail (37 ∷ g.rest))) in
    let are : IsCodes (decimal b ++ g.tail) (b ∷ g.codes) = ([], decimal b, g.tail, refl, refl, d.0, sym d.1, omega arith, g.ends, g.are) in
    ((b ∷ g.codes) ∷ g.others, ([], decimal b ++ g.tail, g.rest, g.more, parts, refl, are, ap (λ v. b ∷ v) g.text, g.stands))

-- one more code
one_code : (b : ℕ) (body text : List ℕ) → b < 256 → GoesOn body text → GoesOn (32 ∷ (decimal b ++ body)) (b ∷ text)
one_code b body text h g =
    let d = decimal_is_IsNumeral b (omega arith) in
    record {
      tail = 32 ∷ (decimal b ++ g.tail);
      codes = b ∷ g.codes;
      rest = g.rest;
      more = g.more;
      others = g.others;
      body = ap (λ v. 32 ∷ v) (ap (λ v. decimal b ++ v) g.body ∙ sym (append_assoc (decimal b) g.tail (37 ∷ g.rest)));
      text = ap (λ v. b ∷ v) g.text;
      ends = refl;
      are = (32 ∷ [], decimal b, g.tail, refl, refl, d.0, sym d.1, omega arith, g.ends, g.are);
      stands = g.stands;
    }

-- the escape ends
escape_ends : (body text : List ℕ) → Stands body text → GoesOn (37 ∷ body) text
escape_ends body text h = record { tail = []; codes = []; rest = body; more = text; others = h.0; body = refl; text = refl; ends = tt; are = refl; stands = h.1 }

plain_byte : (b : ℕ) → is_plain b ≡ true → (is_percent b ≡ false) × (is_quote b ≡ false)
plain_byte b h = (grind (arith, nat_tests), grind (arith, nat_tests))

stand_step : (b : ℕ) (bs : List ℕ) → b < 256 → Stands (plain_text bs) bs × GoesOn (coded_text bs) bs → Stands (plain_text (b ∷ bs)) (b ∷ bs) × GoesOn (coded_text (b ∷ bs)) (b ∷ bs)
stand_step b bs h more = (outside (is_plain b) refl, inside (is_plain b) refl)
  where
    outside : (p : Bool) → is_plain b ≡ p → Stands (cond p (b ∷ plain_text bs) (37 ∷ (decimal b ++ coded_text bs))) (b ∷ bs)
    outside true e = one_plain b (plain_text bs) bs (plain_byte b e).0 more.0
    outside false e = one_escape b (coded_text bs) bs h more.1

    inside : (p : Bool) → is_plain b ≡ p → GoesOn (cond p (37 ∷ b ∷ plain_text bs) (32 ∷ (decimal b ++ coded_text bs))) (b ∷ bs)
    inside true e = escape_ends (b ∷ plain_text bs) (b ∷ bs) (one_plain b (plain_text bs) bs (plain_byte b e).0 more.0)
    inside false e = one_code b (coded_text bs) bs h more.1

stand_for : (bs : List ℕ) → AllByRecursion (λ b. b < 256) bs → Stands (plain_text bs) bs × GoesOn (coded_text bs) bs
stand_for [] h = (([], (refl, refl)), escape_ends [] [] ([], (refl, refl)))
stand_for (b ∷ bs) h = stand_step b bs h.0 (stand_for bs h.1)

-- no quote stands in the body
digit_no_quote : (b : ℕ) → digit_value b < 10 → not (is_quote b) ≡ true
digit_no_quote b h = grind (arith, nat_tests)

digits_no_quote : (ds : List ℕ) → AllDigits 10 ds → is_unquoted ds ≡ true
digits_no_quote [] h = refl
digits_no_quote (b ∷ ds) h = and_from (not (is_quote b)) (is_unquoted ds) (digit_no_quote b h.0) (digits_no_quote ds h.1)

abbrev Unquoted : List ℕ → Type 0
Unquoted bs = (is_unquoted (plain_text bs) ≡ true) × (is_unquoted (coded_text bs) ≡ true)

no_quote_step : (b : ℕ) (bs : List ℕ) → b < 256 → Unquoted bs → Unquoted (b ∷ bs)
no_quote_step b bs h more = (outside (is_plain b) refl, inside (is_plain b) refl)
  where
    coded : is_unquoted (decimal b ++ coded_text bs) ≡ true
    coded = let d = decimal_is_IsNumeral b (omega arith) in all_append (λ c. not (is_quote c)) (decimal b) (coded_text bs) (digits_no_quote (decimal b) d.0.1) more.1

    plain : is_plain b ≡ true → is_unquoted (b ∷ plain_text bs) ≡ true
    plain e = and_from (not (is_quote b)) (is_unquoted (plain_text bs)) (ap not (plain_byte b e).1) more.0

    outside : (p : Bool) → is_plain b ≡ p → is_unquoted (cond p (b ∷ plain_text bs) (37 ∷ (decimal b ++ coded_text bs))) ≡ true
    outside true e = plain e
    outside false e = coded

    inside : (p : Bool) → is_plain b ≡ p → is_unquoted (cond p (37 ∷ b ∷ plain_text bs) (32 ∷ (decimal b ++ coded_text bs))) ≡ true
    inside true e = plain e
    inside false e = coded

no_quotes : (bs : List ℕ) → AllByRecursion (λ b. b < 256) bs → Unquoted bs
no_quotes [] h = (refl, refl)
no_quotes (b ∷ bs) h = no_quote_step b bs h.0 (no_quotes bs h.1)

pub string_spelled : (text : List ℕ) → IsBytes text → SpellsString (string_text text) text
string_spelled text h =
    let bytes : AllByRecursion (λ b. b < 256) text = recursion_from_All (λ b. b < 256) text h in
    (plain_text text, refl, (no_quotes text bytes).0, (stand_for text bytes).0)
