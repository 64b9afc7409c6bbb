-- The bytes of a string have no bad escape just where they stand for a text, and that text is their value.
use Rattle.std.proofs.Common.{◌≡◌, ℕ, zero, suc, ◌+◌, ◌<◌, ◌≤◌, Bool, true, false, not, cond, ◌&&◌, List, [], ◌∷◌, ◌++◌, length, Option, None, Some, refl, sym, ap, ◌∙◌, subst, arith, append_assoc, append-nil, length-append, leb, ⊎_elim, ◌||◌, inl, inr, ◌⊎◌}
use Rattle.std.proofs.lemmas.Bool.{and_parts, and_from, cases_Bool, eqb-true, not-true, not-false, not_from_false, not_from_true, false_from_ne_true, le-leb, leb-true, or_right, cond-true, cond-false}
use Rattle.std.proofs.lemmas.List.Splits.{slice_split-cons_yes, slice_split_none, slice_split_at}
use Rattle.std.specs.Char.{is_ascii_digit}
use Rattle.std.specs.List.{list_all, slice_split, All}
use Rattle.std.specs.Str.{all_ascii_digits}
use Rattle.std.specs.Str.Parse.{IsNumeral, digits_value}
use Rattle.edif_spelling_spec.specs.Bytes.{is_space, is_percent, has_no_percent, EndsRun}
use Rattle.edif_spelling_spec.specs.Strings.{segments, is_code, are_codes, codes_of, is_escape, codes, value, escape_fault}
use Rattle.edif_spelling_spec.specs.Grammar.{EndsCode, IsCodes, StandsFor}
use Rattle.edif_spelling_spec.proofs.EscapeLemmas.{are_codes-cons, codes_of-cons, are_codes_empty, codes_of_empty, are_codes_one, codes_of_one, are_codes-none, codes_of-none, escape_fault_more, value_more}
use Rattle.edif_spelling_spec.proofs.IntegerLemmas.{digits_test, digits_from_test}
use Rattle.edif_spelling_spec.proofs.LexedLemmas.{Span, span}

-- a test of each element, by index
all_false : (p : ℕ → Bool) (xs : List ℕ) → list_all (λ b. not (p b)) xs ≡ true → All (λ x. p x ≡ false) xs
all_false p [] a i d l = absurd (omega arith)
all_false p (x ∷ xs) a zero d l = not-true (p x) (and_parts (not (p x)) (list_all (λ b. not (p b)) xs) a).0
all_false p (x ∷ xs) a (suc i) d l = all_false p xs (and_parts (not (p x)) (list_all (λ b. not (p b)) xs) a).1 i d (omega arith)

-- what codes say of an escape
record Means (escape cs : List ℕ) : Type 0 where
  pub good : is_escape escape ≡ true
  pub worth : codes escape ≡ cs
  pub plain : has_no_percent escape ≡ true

space_split : (b : ℕ) (bs : List ℕ) → is_space b ≡ true → slice_split is_space (b ∷ bs) ≡ [] ∷ slice_split is_space bs
space_split b bs e = slice_split-cons_yes is_space b bs e

good_space : (b : ℕ) (bs : List ℕ) → is_space b ≡ true → is_escape (b ∷ bs) ≡ is_escape bs
good_space b bs e = ap are_codes (space_split b bs e) ∙ are_codes-cons [] (slice_split is_space bs) ∙ ap (λ t. t && is_escape bs) (are_codes_empty [] refl)

worth_space : (b : ℕ) (bs : List ℕ) → is_space b ≡ true → codes (b ∷ bs) ≡ codes bs
worth_space b bs e = ap codes_of (space_split b bs e) ∙ codes_of-cons [] (slice_split is_space bs) ∙ ap (λ l. l ++ codes bs) (codes_of_empty [] refl)

space_no_percent : (b : ℕ) → is_space b ≡ true → not (is_percent b) ≡ true
space_no_percent b e = grind arith

means_space : (b : ℕ) (bs cs : List ℕ) → is_space b ≡ true → Means bs cs → Means (b ∷ bs) cs
means_space b bs cs e m = record { good = good_space b bs e ∙ m.good; worth = worth_space b bs e ∙ m.worth; plain = and_from (not (is_percent b)) (has_no_percent bs) (space_no_percent b e) m.plain }

means_gap : (gap rest cs : List ℕ) → list_all is_space gap ≡ true → Means rest cs → Means (gap ++ rest) cs
means_gap [] rest cs a m = m
means_gap (b ∷ bs) rest cs a m = let p = and_parts (is_space b) (list_all is_space bs) a in means_space b (bs ++ rest) cs p.0 (means_gap bs rest cs p.1 m)

means_none : Means [] []
means_none = record { good = are_codes-cons [] [] ∙ ap (λ t. t && are_codes []) (are_codes_empty [] refl) ∙ are_codes-none; worth = codes_of_empty [] refl; plain = refl }

digit_other : (b : ℕ) → is_ascii_digit b ≡ true → (not (is_space b) ≡ true) × (not (is_percent b) ≡ true)
digit_other b e = (grind arith, grind arith)

digits_other : (ds : List ℕ) → all_ascii_digits ds ≡ true → (list_all (λ b. not (is_space b)) ds ≡ true) × (has_no_percent ds ≡ true)
digits_other [] a = (refl, refl)
digits_other (b ∷ bs) a =
    let p = and_parts (is_ascii_digit b) (all_ascii_digits bs) a in
    let other = digit_other b p.0 in
    let others = digits_other bs p.1 in
    (and_from (not (is_space b)) (list_all (λ x. not (is_space x)) bs) other.0 others.0, and_from (not (is_percent b)) (has_no_percent bs) other.1 others.1)

-- digits up to white space or the end, as the first part
first_part : (ds rest : List ℕ) → list_all (λ b. not (is_space b)) ds ≡ true → EndsCode rest → (parts : List (List ℕ)) × (slice_split is_space (ds ++ rest) ≡ ds ∷ parts) × (are_codes parts ≡ is_escape rest) × (codes_of parts ≡ codes rest)
first_part ds [] a e = (
  [],
  ap (slice_split is_space) (append-nil ds) ∙ slice_split_none is_space ds (all_false is_space ds a),
  are_codes-none ∙ sym means_none.good,
  codes_of-none ∙ sym means_none.worth,
)
first_part ds (b ∷ bs) a e =
    (slice_split is_space bs, slice_split_at is_space ds b bs (all_false is_space ds a) e, sym (good_space b bs e), sym (worth_space b bs e))

no_percent_append : (xs ys : List ℕ) → has_no_percent xs ≡ true → has_no_percent ys ≡ true → has_no_percent (xs ++ ys) ≡ true
no_percent_append [] ys a b = b
no_percent_append (x ∷ xs) ys a b = let p = and_parts (not (is_percent x)) (has_no_percent xs) a in and_from (not (is_percent x)) (has_no_percent (xs ++ ys)) p.0 (no_percent_append xs ys p.1 b)

code_good : (ds : List ℕ) → IsNumeral 10 ds → digits_value 10 ds ≤ 255 → is_code ds ≡ true
code_good ds n l = and_from (all_ascii_digits ds) (leb (digits_value 10 ds) 255) (digits_test ds n.1) (le-leb (digits_value 10 ds) 255 l)

means_code : (ds rest cs : List ℕ) (code : ℕ) → IsNumeral 10 ds → code ≡ digits_value 10 ds → code ≤ 255 → EndsCode rest → Means rest cs → Means (ds ++ rest) (code ∷ cs)
means_code ds rest cs code n v small e m =
    let other = digits_other ds (digits_test ds n.1) in
    let part = first_part ds rest other.0 e in
    let low : digits_value 10 ds ≤ 255 = omega arith in
    record {
      good = ap are_codes part.1 ∙ are_codes-cons ds part.0 ∙ and_from (are_codes (ds ∷ [])) (are_codes part.0) (are_codes_one ds n.0 ∙ code_good ds n low) (part.2 ∙ m.good);
      worth = ap codes_of part.1 ∙ codes_of-cons ds part.0 ∙ ap (λ l. l ++ codes_of part.0) (codes_of_one ds n.0) ∙ ap (λ l. digits_value 10 ds ∷ l) (part.3 ∙ m.worth) ∙ ap (λ x. x ∷ cs) (sym v);
      plain = no_percent_append ds rest other.1 m.plain;
    }

means_codes : (escape cs : List ℕ) → IsCodes escape cs → Means escape cs
means_codes escape [] h = let M : List ℕ → Type 0 = λ x. Means x [] in subst M (append-nil escape) (means_gap escape [] [] h means_none)
means_codes escape (code ∷ cs) h =
    let M : List ℕ → Type 0 = λ x. Means x (code ∷ cs) in
    subst M (sym h.3) (means_gap h.0 (h.1 ++ h.2) (code ∷ cs) h.4 (means_code h.1 h.2 cs code h.5 h.6 h.7 h.8 (means_codes h.2 cs h.9)))

segments_at : (plain rest : List ℕ) → has_no_percent plain ≡ true → segments (plain ++ 37 ∷ rest) ≡ plain ∷ segments rest
segments_at plain rest a = slice_split_at is_percent plain 37 rest (all_false is_percent plain a) refl

segments_plain : (plain : List ℕ) → has_no_percent plain ≡ true → segments plain ≡ plain ∷ []
segments_plain plain a = slice_split_none is_percent plain (all_false is_percent plain a)

-- what stands for a text has no bad escape, and that text as its value
pub stands_value : (closed : Bool) (escapes : List (List ℕ)) (body text : List ℕ) (at : ℕ) → StandsFor escapes body text → (escape_fault closed at (segments body) ≡ None) × (text ≡ value (segments body))
stands_value closed [] body text at h = (ap (escape_fault closed at) (segments_plain body h.0), h.1 ∙ sym (ap value (segments_plain body h.0)))
stands_value closed (cs ∷ others) body text at h =
    let plain : List ℕ = h.0 in
    let escape : List ℕ = h.1 in
    let rest : List ℕ = h.2 in
    let means = means_codes escape cs h.6 in
    let first : segments body ≡ plain ∷ segments (escape ++ 37 ∷ rest) = ap segments h.4 ∙ segments_at plain (escape ++ 37 ∷ rest) h.5 in
    let second : segments (escape ++ 37 ∷ rest) ≡ escape ∷ segments rest = segments_at escape rest means.plain in
    let inner = stands_value closed others rest h.3 (at + length plain + (length escape + 2)) h.8 in (
      escape_fault_more closed at body plain (escape ++ 37 ∷ rest) escape rest first second means.good ∙ inner.0,
      h.7 ∙ ap (λ c. plain ++ c ++ h.3) (sym means.worth) ∙ ap (λ l. plain ++ codes escape ++ l) inner.1 ∙ sym (value_more body plain (escape ++ 37 ∷ rest) escape rest first second),
    )

-- an escape without a fault is codes
codes_space : (b : ℕ) (bs cs : List ℕ) → is_space b ≡ true → IsCodes bs cs → IsCodes (b ∷ bs) cs
codes_space b bs [] e h = and_from (is_space b) (list_all is_space bs) e h
codes_space b bs (c ∷ cs) e h = (b ∷ h.0, h.1, h.2, ap (λ l. b ∷ l) h.3, and_from (is_space b) (list_all is_space h.0) e h.4, h.5, h.6, h.7, h.8, h.9)

abbrev Codes : ℕ → Type 0
Codes k = (escape : List ℕ) → length escape ≤ k → is_escape escape ≡ true → IsCodes escape (codes escape)

abbrev CodesOf : List ℕ → Type 0
CodesOf escape = IsCodes escape (codes escape)

ends_code : (rest : List ℕ) → EndsRun (λ b. not (is_space b)) rest → EndsCode rest
ends_code [] e = tt
ends_code (b ∷ bs) e = not-false (is_space b) e

codes_digits : (k : ℕ) (escape ds rest : List ℕ) → Codes k → escape ≡ ds ++ rest → 0 < length ds → list_all (λ b. not (is_space b)) ds ≡ true → EndsCode rest → length escape ≤ suc k → is_escape escape ≡ true → CodesOf escape
codes_digits k escape ds rest inner e l a ends m good =
    let part = first_part ds rest a ends in
    let split : slice_split is_space escape ≡ ds ∷ part.0 = ap (slice_split is_space) e ∙ part.1 in
    let both = and_parts (are_codes (ds ∷ [])) (are_codes part.0) (sym (ap are_codes split ∙ are_codes-cons ds part.0) ∙ good) in
    let code = and_parts (all_ascii_digits ds) (leb (digits_value 10 ds) 255) (sym (are_codes_one ds l) ∙ both.0) in
    let long = ap length e in
    let shorter : length rest ≤ k = omega (arith, length-append ds rest) in
    let worth : codes escape ≡ digits_value 10 ds ∷ codes rest = ap codes_of split ∙ codes_of-cons ds part.0 ∙ ap (λ x. x ++ codes_of part.0) (codes_of_one ds l) ∙ ap (λ x. digits_value 10 ds ∷ x) part.3 in
    let I : List ℕ → Type 0 = λ cs. IsCodes escape cs in
    subst I (sym worth) ([], ds, rest, e, refl, (l, digits_from_test ds code.0), refl, leb-true (digits_value 10 ds) 255 code.1, ends, inner rest shorter (sym part.2 ∙ both.1))

codes_step : (k b : ℕ) (bs : List ℕ) → Codes k → Span (λ x. not (is_space x)) bs → length (b ∷ bs) ≤ suc k → is_escape (b ∷ bs) ≡ true → CodesOf (b ∷ bs)
codes_step k b bs inner s m good = ⊎_elim
    (λ space.
    let I : List ℕ → Type 0 = λ cs. IsCodes (b ∷ bs) cs in
    subst I (sym (worth_space b bs space)) (codes_space b bs (codes bs) space (inner bs (omega arith) (sym (good_space b bs space) ∙ good))))
    (λ no_space.
    codes_digits k (b ∷ bs) (b ∷ s.run) s.rest inner (ap (λ l. b ∷ l) s.whole) (omega arith) (and_from (not (is_space b)) (list_all (λ x. not (is_space x)) s.run) (not_from_false (is_space b) no_space) s.passes) (ends_code s.rest s.ends) m good)
    (cases_Bool (is_space b))

all_codes : (k : ℕ) → Codes k
all_codes k [] l good = let I : List ℕ → Type 0 = λ cs. IsCodes [] cs in subst I (sym means_none.worth) refl
all_codes zero (b ∷ bs) l good = absurd (omega arith)
all_codes (suc k) (b ∷ bs) l good = codes_step k b bs (all_codes k) (span (λ x. not (is_space x)) bs) l good

-- bytes without a bad escape stand for their value
abbrev Stands : List ℕ → Type 0
Stands body = (escapes : List (List ℕ)) × StandsFor escapes body (value (segments body))

abbrev Standing : ℕ → Type 0
Standing k = (body : List ℕ) (at : ℕ) → length body ≤ k → escape_fault true at (segments body) ≡ None → Stands body

bad_escape : (at : ℕ) (plain escape : List ℕ) (parts : List (List ℕ)) → is_escape escape ≡ false → escape_fault true at (plain ∷ escape ∷ parts) ≡ Some (at + length plain)
bad_escape at plain escape [] e = refl
bad_escape at plain escape (next ∷ more) e = ap (λ t. cond t (escape_fault true (at + length plain + length escape + 2) (next ∷ more)) (Some (at + length plain))) e

stands_escape : (k at : ℕ) (body plain escape rest : List ℕ) (good : Bool) → Standing k → body ≡ plain ++ 37 ∷ (escape ++ 37 ∷ rest) → has_no_percent plain ≡ true → has_no_percent escape ≡ true → is_escape escape ≡ good → length body ≤ suc k → escape_fault true at (segments body) ≡ None → Stands body
stands_escape k at body plain escape rest true inner e a b g m none =
    let first : segments body ≡ plain ∷ segments (escape ++ 37 ∷ rest) = ap segments e ∙ segments_at plain (escape ++ 37 ∷ rest) a in
    let second : segments (escape ++ 37 ∷ rest) ≡ escape ∷ segments rest = segments_at escape rest b in
    let long = ap length e in
    let shorter : length rest ≤ k = omega (arith, length-append plain (37 ∷ (escape ++ 37 ∷ rest)), length-append escape (37 ∷ rest)) in
    let more = inner rest (at + length plain + (length escape + 2)) shorter (sym (escape_fault_more true at body plain (escape ++ 37 ∷ rest) escape rest first second g) ∙ none) in
    (codes escape ∷ more.0, (plain, escape, rest, value (segments rest), e, a, all_codes (length escape) escape (omega arith) g, value_more body plain (escape ++ 37 ∷ rest) escape rest first second, more.1))
stands_escape k at body plain escape rest false inner e a b g m none =
    let first : segments body ≡ plain ∷ segments (escape ++ 37 ∷ rest) = ap segments e ∙ segments_at plain (escape ++ 37 ∷ rest) a in
    let second : segments (escape ++ 37 ∷ rest) ≡ escape ∷ segments rest = segments_at escape rest b in
    let both = sym (ap (escape_fault true at) (first ∙ ap (λ l. plain ∷ l) second) ∙ bad_escape at plain escape (segments rest) g) ∙ none in cc

stands_closed : (k at : ℕ) (body plain escape rest : List ℕ) → Standing k → body ≡ plain ++ 37 ∷ (escape ++ rest) → has_no_percent plain ≡ true → has_no_percent escape ≡ true → EndsRun (λ x. not (is_percent x)) rest → length body ≤ suc k → escape_fault true at (segments body) ≡ None → Stands body
stands_closed k at body plain escape [] inner e a b ends m none =
    let first : segments body ≡ plain ∷ (escape ∷ []) = ap segments (e ∙ ap (λ x. plain ++ 37 ∷ x) (append-nil escape)) ∙ segments_at plain escape a ∙ ap (λ l. plain ∷ l) (segments_plain escape b) in
    let both = sym (ap (escape_fault true at) first) ∙ none in cc
stands_closed k at body plain escape (c ∷ more) inner e a b ends m none =
    let percent : c ≡ 37 = eqb-true c 37 (not-false (is_percent c) ends) in
    stands_escape k at body plain escape more (is_escape escape) inner (e ∙ ap (λ x. plain ++ 37 ∷ (escape ++ x ∷ more)) percent) a b refl m none

stands_step : (k at : ℕ) (body plain rest : List ℕ) → Standing k → body ≡ plain ++ rest → has_no_percent plain ≡ true → EndsRun (λ x. not (is_percent x)) rest → length body ≤ suc k → escape_fault true at (segments body) ≡ None → Stands body
stands_step k at body plain [] inner e a ends m none =
    let same : body ≡ plain = e ∙ append-nil plain in
    let whole : has_no_percent body ≡ true = ap has_no_percent same ∙ a in ([], (whole, ap value (segments_plain body whole)))
stands_step k at body plain (c ∷ more) inner e a ends m none =
    let percent : c ≡ 37 = eqb-true c 37 (not-false (is_percent c) ends) in
    let s = span (λ x. not (is_percent x)) more in
    stands_closed k at body plain s.run s.rest inner (e ∙ ap (λ x. plain ++ x ∷ more) percent ∙ ap (λ x. plain ++ 37 ∷ x) s.whole) a s.passes s.ends m none

all_stand : (k : ℕ) → Standing k
all_stand k [] at l none = ([], (refl, refl))
all_stand zero (b ∷ bs) at l none = absurd (omega arith)
all_stand (suc k) (b ∷ bs) at l none =
    let s = span (λ x. not (is_percent x)) (b ∷ bs) in stands_step k at (b ∷ bs) s.run s.rest (all_stand k) s.whole s.passes s.ends l none

pub value_stands : (body : List ℕ) → escape_fault true 0 (segments body) ≡ None → (escapes : List (List ℕ)) × StandsFor escapes body (value (segments body))
value_stands body none = all_stand (length body) body 0 (omega arith) none

-- an escape after bytes that stand for a text
record Last (closed : Bool) (at : ℕ) (front x : List ℕ) : Type 0 where
  last : List ℕ
  from : ℕ
  same : escape_fault closed at (segments (front ++ 37 ∷ x)) ≡ escape_fault closed from (last ∷ segments x)
  count : from + length last ≡ at + length front

regrouped : (plain escape rest x : List ℕ) → (plain ++ 37 ∷ (escape ++ 37 ∷ rest)) ++ x ≡ plain ++ 37 ∷ (escape ++ 37 ∷ (rest ++ x))
regrouped plain escape rest x = append_assoc plain (37 ∷ (escape ++ 37 ∷ rest)) x ∙ ap (λ l. plain ++ 37 ∷ l) (append_assoc escape (37 ∷ rest) x)

after_front : (closed : Bool) (escapes : List (List ℕ)) (front text : List ℕ) (at : ℕ) (x : List ℕ) → StandsFor escapes front text → Last closed at front x
after_front closed [] front text at x h = record { last = front; from = at; same = ap (escape_fault closed at) (segments_at front x h.0); count = refl }
after_front closed (cs ∷ others) front text at x h =
    let plain : List ℕ = h.0 in
    let escape : List ℕ = h.1 in
    let rest : List ℕ = h.2 in
    let means = means_codes escape cs h.6 in
    let inner = after_front closed others rest h.3 (at + length plain + (length escape + 2)) x h.8 in
    let whole : front ++ 37 ∷ x ≡ plain ++ 37 ∷ (escape ++ 37 ∷ (rest ++ 37 ∷ x)) = ap (λ l. l ++ 37 ∷ x) h.4 ∙ regrouped plain escape rest (37 ∷ x) in
    let first : segments (front ++ 37 ∷ x) ≡ plain ∷ segments (escape ++ 37 ∷ (rest ++ 37 ∷ x)) = ap segments whole ∙ segments_at plain (escape ++ 37 ∷ (rest ++ 37 ∷ x)) h.5 in
    let second : segments (escape ++ 37 ∷ (rest ++ 37 ∷ x)) ≡ escape ∷ segments (rest ++ 37 ∷ x) = segments_at escape (rest ++ 37 ∷ x) means.plain in
    let long = ap length h.4 in
    let deep = inner.count in
    record {
      last = inner.last;
      from = inner.from;
      same = escape_fault_more closed at (front ++ 37 ∷ x) plain (escape ++ 37 ∷ (rest ++ 37 ∷ x)) escape (rest ++ 37 ∷ x) first second means.good ∙ inner.same;
      count = omega (arith, length-append plain (37 ∷ (escape ++ 37 ∷ rest)), length-append escape (37 ∷ rest));
    }

bad_part : (closed : Bool) (at : ℕ) (plain escape : List ℕ) (parts : List (List ℕ)) → is_escape escape ≡ false → escape_fault closed at (plain ∷ escape ∷ parts) ≡ Some (at + length plain)
bad_part closed at plain escape [] e = cond-true (closed || not (is_escape escape)) (Some (at + length plain)) None (or_right closed (not (is_escape escape)) (not_from_false (is_escape escape) e))
bad_part closed at plain escape (next ∷ more) e = ap (λ t. cond t (escape_fault closed (at + length plain + length escape + 2) (next ∷ more)) (Some (at + length plain))) e

-- an escape that is no codes, after such bytes
pub fault_closed_escape : (closed : Bool) (escapes : List (List ℕ)) (front text escape more : List ℕ) → StandsFor escapes front text → has_no_percent escape ≡ true → is_escape escape ≡ false → escape_fault closed 0 (segments (front ++ 37 ∷ (escape ++ 37 ∷ more))) ≡ Some (length front)
fault_closed_escape closed escapes front text escape more h p e =
    let l = after_front closed escapes front text 0 (escape ++ 37 ∷ more) h in
    let deep = l.count in
    l.same ∙ ap (λ s. escape_fault closed l.from (l.last ∷ s)) (segments_at escape more p) ∙ bad_part closed l.from l.last escape (segments more) e ∙ ap Some (omega arith)

fault_open_escape : (closed : Bool) (escapes : List (List ℕ)) (front text escape : List ℕ) → StandsFor escapes front text → has_no_percent escape ≡ true → escape_fault closed 0 (segments (front ++ 37 ∷ escape)) ≡ cond (closed || not (is_escape escape)) (Some (length front)) None
fault_open_escape closed escapes front text escape h p =
    let l = after_front closed escapes front text 0 escape h in
    let deep = l.count in
    let place : l.from + length l.last ≡ length front = omega arith in
    l.same ∙ ap (λ s. escape_fault closed l.from (l.last ∷ s)) (segments_plain escape p) ∙ ap (λ n. cond (closed || not (is_escape escape)) (Some n) None) place

pub fault_left_open : (escapes : List (List ℕ)) (front text escape : List ℕ) → StandsFor escapes front text → has_no_percent escape ≡ true → escape_fault true 0 (segments (front ++ 37 ∷ escape)) ≡ Some (length front)
fault_left_open escapes front text escape h p = fault_open_escape true escapes front text escape h p

pub fault_bad_open : (escapes : List (List ℕ)) (front text escape : List ℕ) → StandsFor escapes front text → has_no_percent escape ≡ true → is_escape escape ≡ false → escape_fault false 0 (segments (front ++ 37 ∷ escape)) ≡ Some (length front)
fault_bad_open escapes front text escape h p e = fault_open_escape false escapes front text escape h p ∙ cond-true (not (is_escape escape)) (Some (length front)) None (not_from_false (is_escape escape) e)

pub no_fault_open : (escapes : List (List ℕ)) (front text escape cs : List ℕ) → StandsFor escapes front text → IsCodes escape cs → escape_fault false 0 (segments (front ++ 37 ∷ escape)) ≡ None
no_fault_open escapes front text escape cs h c =
    let means = means_codes escape cs c in
    fault_open_escape false escapes front text escape h means.plain ∙ cond-false (not (is_escape escape)) (Some (length front)) None (not_from_true (is_escape escape) means.good)

-- an escape that no codes fit
pub no_codes : (escape : List ℕ) → ((cs : List ℕ) → IsCodes escape cs → ⊥) → is_escape escape ≡ false
no_codes escape unfit = false_from_ne_true (is_escape escape) (λ good. unfit (codes escape) (all_codes (length escape) escape (omega arith) good))

pub some_codes : (escape : List ℕ) → is_escape escape ≡ true → IsCodes escape (codes escape)
some_codes escape good = all_codes (length escape) escape (omega arith) good

pub codes_good : (escape cs : List ℕ) → IsCodes escape cs → is_escape escape ≡ true
codes_good escape cs h = (means_codes escape cs h).good

-- where a bad escape stands
pub record BadPart (closed : Bool) (body : List ℕ) (before at : ℕ) : Type 0 where
  pub front : List ℕ
  pub escape : List ℕ
  pub tail : List ℕ
  pub whole : body ≡ front ++ 37 ∷ (escape ++ tail)
  pub stands : (escapes : List (List ℕ)) × (text : List ℕ) × StandsFor escapes front text
  pub plain : has_no_percent escape ≡ true
  pub place : at ≡ before + length front
  pub ends : EndsRun (λ x. not (is_percent x)) tail
  pub bad : (is_escape escape ≡ false) ⊎ ((tail ≡ []) × (closed ≡ true))

-- a text with no bad escape that goes on to its end
abbrev pub OpenPart : List ℕ → Type 0
OpenPart body = ((escapes : List (List ℕ)) × (text : List ℕ) × StandsFor escapes body text)
    ⊎ ((front : List ℕ) × (escape : List ℕ) × (codes : List ℕ) × (body ≡ front ++ 37 ∷ escape)
    × ((escapes : List (List ℕ)) × (text : List ℕ) × StandsFor escapes front text) × IsCodes escape codes)

abbrev StandsSome : List ℕ → Type 0
StandsSome front = (escapes : List (List ℕ)) × (text : List ℕ) × StandsFor escapes front text

plain_stands : (plain : List ℕ) → has_no_percent plain ≡ true → StandsSome plain
plain_stands plain a = ([], plain, (a, refl))

more_stands : (plain escape front : List ℕ) → has_no_percent plain ≡ true → is_escape escape ≡ true → StandsSome front → StandsSome (plain ++ 37 ∷ (escape ++ 37 ∷ front))
more_stands plain escape front a good s = (codes escape ∷ s.0, plain ++ codes escape ++ s.1, (plain, escape, front, s.1, refl, a, some_codes escape good, refl, s.2))

more_bad : (closed : Bool) (body plain escape more : List ℕ) (before at : ℕ) → body ≡ plain ++ 37 ∷ (escape ++ 37 ∷ more) → has_no_percent plain ≡ true → is_escape escape ≡ true → BadPart closed more (before + length plain + (length escape + 2)) at → BadPart closed body before at
more_bad closed body plain escape more before at e a good b = record {
  front = plain ++ 37 ∷ (escape ++ 37 ∷ b.front);
  escape = b.escape;
  tail = b.tail;
  whole = e ∙ ap (λ m. plain ++ 37 ∷ (escape ++ 37 ∷ m)) b.whole ∙ sym (regrouped plain escape b.front (37 ∷ (b.escape ++ b.tail)));
  stands = more_stands plain escape b.front a good b.stands;
  plain = b.plain;
  place = let p = b.place in omega (arith, length-append plain (37 ∷ (escape ++ 37 ∷ b.front)), length-append escape (37 ∷ b.front));
  ends = b.ends;
  bad = b.bad;
}

more_open : (body plain escape more : List ℕ) → body ≡ plain ++ 37 ∷ (escape ++ 37 ∷ more) → has_no_percent plain ≡ true → is_escape escape ≡ true → OpenPart more → OpenPart body
more_open body plain escape more e a good o = ⊎_elim
    (λ s. let S : List ℕ → Type 0 = StandsSome in inl (subst S (sym e) (more_stands plain escape more a good s)))
    (λ s. inr (plain ++ 37 ∷ (escape ++ 37 ∷ s.0), s.1, s.2, e ∙ ap (λ m. plain ++ 37 ∷ (escape ++ 37 ∷ m)) s.3 ∙ sym (regrouped plain escape s.0 (37 ∷ s.1)), more_stands plain escape s.0 a good s.4, s.5))
    o

-- what a search for the first bad escape found
abbrev Found : Bool → List ℕ → ℕ → Option ℕ → Type 0
Found closed body before (Some at) = BadPart closed body before at
Found closed body before None = (closed ≡ false) → OpenPart body

abbrev Finds : ℕ → Type 0
Finds k = (closed : Bool) (body : List ℕ) (before : ℕ) → length body ≤ k → Found closed body before (escape_fault closed before (segments body))

found_last : (closed good : Bool) (body plain escape : List ℕ) (before : ℕ) → body ≡ plain ++ 37 ∷ escape → has_no_percent plain ≡ true → has_no_percent escape ≡ true → is_escape escape ≡ good → Found closed body before (cond (closed || not good) (Some (before + length plain)) None)
found_last true good body plain escape before e a p g = record { front = plain; escape = escape; tail = []; whole = e ∙ ap (λ l. plain ++ 37 ∷ l) (sym (append-nil escape)); stands = plain_stands plain a; plain = p; place = refl; ends = tt; bad = inr (refl, refl) }
found_last false false body plain escape before e a p g = record { front = plain; escape = escape; tail = []; whole = e ∙ ap (λ l. plain ++ 37 ∷ l) (sym (append-nil escape)); stands = plain_stands plain a; plain = p; place = refl; ends = tt; bad = inl g }
found_last false true body plain escape before e a p g = λ c. inr (plain, escape, codes escape, e, plain_stands plain a, some_codes escape g)

found_deeper : (closed : Bool) (body plain escape more : List ℕ) (before : ℕ) (o : Option ℕ) → body ≡ plain ++ 37 ∷ (escape ++ 37 ∷ more) → has_no_percent plain ≡ true → is_escape escape ≡ true → Found closed more (before + length plain + (length escape + 2)) o → Found closed body before o
found_deeper closed body plain escape more before (Some at) e a good f = more_bad closed body plain escape more before at e a good f
found_deeper closed body plain escape more before None e a good f = λ c. more_open body plain escape more e a good (f c)

found_more : (k : ℕ) (closed good : Bool) (body plain escape more : List ℕ) (before : ℕ) → Finds k → length body ≤ suc k → body ≡ plain ++ 37 ∷ (escape ++ 37 ∷ more) → has_no_percent plain ≡ true → has_no_percent escape ≡ true → is_escape escape ≡ good → Found closed body before (escape_fault closed before (segments body))
found_more k closed true body plain escape more before inner m e a p g =
    let first : segments body ≡ plain ∷ segments (escape ++ 37 ∷ more) = ap segments e ∙ segments_at plain (escape ++ 37 ∷ more) a in
    let long = ap length e in
    let shorter : length more ≤ k = omega (arith, length-append plain (37 ∷ (escape ++ 37 ∷ more)), length-append escape (37 ∷ more)) in
    let F : Option ℕ → Type 0 = λ o. Found closed body before o in
    subst F (sym (escape_fault_more closed before body plain (escape ++ 37 ∷ more) escape more first (segments_at escape more p) g))
    (found_deeper closed body plain escape more before (escape_fault closed (before + length plain + (length escape + 2)) (segments more)) e a g (inner closed more (before + length plain + (length escape + 2)) shorter))
found_more k closed false body plain escape more before inner m e a p g =
    let F : Option ℕ → Type 0 = λ o. Found closed body before o in
    let split : segments body ≡ plain ∷ (escape ∷ segments more) = ap segments e ∙ segments_at plain (escape ++ 37 ∷ more) a ∙ ap (λ l. plain ∷ l) (segments_at escape more p) in
    subst F (sym (ap (escape_fault closed before) split ∙ bad_part closed before plain escape (segments more) g))
    (record { front = plain; escape = escape; tail = 37 ∷ more; whole = e; stands = plain_stands plain a; plain = p; place = refl; ends = refl; bad = inl g })

found_rest : (k : ℕ) (closed : Bool) (body plain escape rest : List ℕ) (before : ℕ) → Finds k → length body ≤ suc k → body ≡ plain ++ 37 ∷ (escape ++ rest) → has_no_percent plain ≡ true → has_no_percent escape ≡ true → EndsRun (λ x. not (is_percent x)) rest → Found closed body before (escape_fault closed before (segments body))
found_rest k closed body plain escape [] before inner m e a p ends =
    let F : Option ℕ → Type 0 = λ o. Found closed body before o in
    let same : body ≡ plain ++ 37 ∷ escape = e ∙ ap (λ l. plain ++ 37 ∷ l) (append-nil escape) in
    let split : segments body ≡ plain ∷ (escape ∷ []) = ap segments same ∙ segments_at plain escape a ∙ ap (λ l. plain ∷ l) (segments_plain escape p) in
    subst F (sym (ap (escape_fault closed before) split)) (found_last closed (is_escape escape) body plain escape before same a p refl)
found_rest k closed body plain escape (c ∷ more) before inner m e a p ends =
    let percent : c ≡ 37 = eqb-true c 37 (not-false (is_percent c) ends) in
    found_more k closed (is_escape escape) body plain escape more before inner m (e ∙ ap (λ x. plain ++ 37 ∷ (escape ++ x ∷ more)) percent) a p refl

found_first : (k : ℕ) (closed : Bool) (body plain rest : List ℕ) (before : ℕ) → Finds k → length body ≤ suc k → body ≡ plain ++ rest → has_no_percent plain ≡ true → EndsRun (λ x. not (is_percent x)) rest → Found closed body before (escape_fault closed before (segments body))
found_first k closed body plain [] before inner m e a ends =
    let F : Option ℕ → Type 0 = λ o. Found closed body before o in
    let same : body ≡ plain = e ∙ append-nil plain in
    let S : List ℕ → Type 0 = StandsSome in
    subst F (sym (ap (escape_fault closed before) (ap segments same ∙ segments_plain plain a))) (λ c. inl (subst S (sym same) (plain_stands plain a)))
found_first k closed body plain (c ∷ more) before inner m e a ends =
    let percent : c ≡ 37 = eqb-true c 37 (not-false (is_percent c) ends) in
    let s = span (λ x. not (is_percent x)) more in
    found_rest k closed body plain s.run s.rest before inner m (e ∙ ap (λ x. plain ++ x ∷ more) percent ∙ ap (λ x. plain ++ 37 ∷ x) s.whole) a s.passes s.ends

all_found : (k : ℕ) → Finds k
all_found k closed [] before l = λ c. inl (plain_stands [] refl)
all_found zero closed (b ∷ bs) before l = absurd (omega arith)
all_found (suc k) closed (b ∷ bs) before l =
    let s = span (λ x. not (is_percent x)) (b ∷ bs) in found_first k closed (b ∷ bs) s.run s.rest before (all_found k) l s.whole s.passes s.ends

pub bad_escape_at : (closed : Bool) (body : List ℕ) (at : ℕ) → escape_fault closed 0 (segments body) ≡ Some at → BadPart closed body 0 at
bad_escape_at closed body at e = let F : Option ℕ → Type 0 = λ o. Found closed body 0 o in subst F e (all_found (length body) closed body 0 (omega arith))

pub open_part : (body : List ℕ) → escape_fault false 0 (segments body) ≡ None → OpenPart body
open_part body e = let F : Option ℕ → Type 0 = λ o. Found false body 0 o in (subst F e (all_found (length body) false body 0 (omega arith))) refl
