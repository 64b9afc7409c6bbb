-- The words of a line with a quote, and how many lines a text has.
use Rattle.std.proofs.Common.{◌≡◌, ◌∙◌, ℕ, ◌+◌, ◌-◌, ◌<◌, ◌≤◌, List, [], ◌∷◌, ◌++◌, Bool, true, false, not, ◌&&◌, cond, length, take, drop, get_or, None, Some, refl, sym, ap, arith, append_assoc, append-nil, ltb, length-append, length-take}
use Rattle.std.specs.Prelude.{filter}
use Rattle.std.specs.List.{after_first, before_first, list_all, onto_first, position, position_or_len, slice_split}
use Rattle.std.proofs.lemmas.Bool.{eqb-true, ltb-false}
use Rattle.std.proofs.lemmas.List.{drop_all, drop_at, take_all}
use Rattle.std.proofs.lemmas.List.Sums.{passes_at_first, split_at_first}
use Rattle.edif_lexer.proofs.CutLemmas.{cond_none, position_cases}
use Rattle.std.proofs.lemmas.List.Splits.{length-slice_split}
use Rattle.edif_spelling_spec.specs.Bytes.{is_quote}
use Rattle.edif_spelling_spec.specs.Names.{is_empty}
use Rattle.script_spec.specs.ScriptText.{extended, is_blank, is_line_feed, lines_of, lines_of_parts, trimmed, words}

-- ---- the last part of a list that is cut is its end

pub record Ends (xs : List ℕ) (front : List (List ℕ)) (last : List ℕ) : Type 0 where
  pub before : List ℕ
  pub parts : xs ≡ before ++ last
  pub alone : front ≡ [] → before ≡ []

abbrev pub EndsOf : (ℕ → Bool) → List ℕ → Type 0
EndsOf p xs = (front : List (List ℕ)) (last : List ℕ) → slice_split p xs ≡ front ++ last ∷ [] → Ends xs front last

ends_cut : (p : ℕ → Bool) (x : ℕ) (xs : List ℕ) (parts front : List (List ℕ)) (last : List ℕ) → slice_split p xs ≡ parts → 0 < length parts → EndsOf p xs
    → [] ∷ parts ≡ front ++ last ∷ [] → Ends (x ∷ xs) front last
ends_cut p x xs parts [] last e some ends q = let none : parts ≡ [] = cc (q) in let long : length parts ≡ 0 = ap length none in absurd (omega (arith, some, long))
ends_cut p x xs parts (first ∷ front) last e some ends q =
    let tails : parts ≡ front ++ last ∷ [] = cc (q) in
    let rest = ends front last (e ∙ tails) in
    record { before = x ∷ rest.before; parts = ap (λ l. x ∷ l) rest.parts; alone = λ none. absurd (cc (none)) }

ends_on : (p : ℕ → Bool) (x : ℕ) (xs : List ℕ) (parts front : List (List ℕ)) (last : List ℕ) → slice_split p xs ≡ parts → EndsOf p xs
    → onto_first x parts ≡ front ++ last ∷ [] → 0 < length parts → Ends (x ∷ xs) front last
ends_on p x xs [] front last e ends q some = absurd (omega (arith, some))
ends_on p x xs (part ∷ []) [] last e ends q some =
    let same : x ∷ part ≡ last = cc (q) in
    let rest = ends [] part e in
    record { before = []; parts = ap (λ l. x ∷ l) (rest.parts ∙ ap (λ b. b ++ part) (rest.alone refl)) ∙ same; alone = λ none. refl }
ends_on p x xs (part ∷ []) (first ∷ []) last e ends q some = absurd (cc (q))
ends_on p x xs (part ∷ []) (first ∷ second ∷ front) last e ends q some = absurd (cc (q))
ends_on p x xs (part ∷ next ∷ parts) [] last e ends q some = absurd (cc (q))
ends_on p x xs (part ∷ next ∷ parts) (first ∷ front) last e ends q some =
    let tails : next ∷ parts ≡ front ++ last ∷ [] = cc (q) in
    let rest = ends (part ∷ front) last (e ∙ ap (λ ps. part ∷ ps) tails) in
    record { before = x ∷ rest.before; parts = ap (λ l. x ∷ l) rest.parts; alone = λ none. absurd (cc (none)) }

ends_step : (p : ℕ → Bool) (x : ℕ) (xs : List ℕ) (b : Bool) (front : List (List ℕ)) (last : List ℕ) → EndsOf p xs
    → cond b ([] ∷ slice_split p xs) (onto_first x (slice_split p xs)) ≡ front ++ last ∷ [] → Ends (x ∷ xs) front last
ends_step p x xs true front last ends q = let many = length-slice_split p xs in ends_cut p x xs (slice_split p xs) front last refl (omega (arith, many)) ends q
ends_step p x xs false front last ends q = let many = length-slice_split p xs in ends_on p x xs (slice_split p xs) front last refl ends q (omega (arith, many))

pub ends_of : (p : ℕ → Bool) (xs : List ℕ) → EndsOf p xs
ends_of p [] [] last e = record { before = []; parts = cc (e); alone = λ none. refl }
ends_of p [] (first ∷ []) last e = absurd (cc (e))
ends_of p [] (first ∷ second ∷ front) last e = absurd (cc (e))
ends_of p (x ∷ xs) front last e = ends_step p x xs (p x) front last (ends_of p xs) e

-- ---- the words of a line with a quote

trimmed_more : (xs ys : List ℕ) → list_all is_blank ys ≡ false → trimmed (xs ++ ys) ≡ xs ++ trimmed ys
trimmed_more [] ys e = refl
trimmed_more (x ∷ xs) ys e = ap (λ b. cond b [] (x ∷ trimmed (xs ++ ys))) (not_all (x ∷ xs) ys e) ∙ ap (λ l. x ∷ l) (trimmed_more xs ys e)
  where
    both : (t : Bool) → (t && false) ≡ false
    both true = refl
    both false = refl

    not_all : (bs cs : List ℕ) → list_all is_blank cs ≡ false → list_all is_blank (bs ++ cs) ≡ false
    not_all [] cs f = f
    not_all (b ∷ bs) cs f = ap (λ t. is_blank b && t) (not_all bs cs f) ∙ both (is_blank b)

extended_last : (front : List (List ℕ)) (last more : List ℕ) → extended (front ++ last ∷ []) more ≡ front ++ (last ++ more) ∷ []
extended_last [] last more = refl
extended_last (part ∷ []) last more = refl
extended_last (part ∷ next ∷ front) last more = ap (λ ps. part ∷ ps) (extended_last (next ∷ front) last more)

abbrev filled : List (List ℕ) → List (List ℕ)
filled parts = filter (λ word. not (is_empty word)) parts

filled_last : (front : List (List ℕ)) (word : List ℕ) → not (is_empty word) ≡ true → filled (front ++ word ∷ []) ≡ filled front ++ word ∷ []
filled_last [] word e = ap (λ b. cond b (word ∷ []) []) e
filled_last (part ∷ front) word e = kept (not (is_empty part)) (filled_last front word e)
  where
    kept : (b : Bool) → filled (front ++ word ∷ []) ≡ filled front ++ word ∷ []
        → cond b (part ∷ filled (front ++ word ∷ [])) (filled (front ++ word ∷ [])) ≡ cond b (part ∷ filled front) (filled front) ++ word ∷ []
    kept true rest = ap (λ ps. part ∷ ps) rest
    kept false rest = rest

some_bytes : (b : ℕ) (bytes : List ℕ) → not (is_empty (b ∷ bytes)) ≡ true
some_bytes b bytes = grind arith

some_behind : (xs : List ℕ) (b : ℕ) (bytes : List ℕ) → not (is_empty (xs ++ b ∷ bytes)) ≡ true
some_behind [] b bytes = some_bytes b bytes
some_behind (x ∷ xs) b bytes = some_bytes x (xs ++ b ∷ bytes)

-- a line in its parts round the first quote
record Quoted (line : List ℕ) (quote : ℕ) : Type 0 where
  after : List ℕ
  parts : line ≡ take quote line ++ 34 ∷ after
  front : before_first is_quote line ≡ take quote line
  long : length (take quote line) ≡ quote
  short : quote ≤ length line

quoted : (line : List ℕ) (quote : ℕ) → position is_quote line ≡ Some quote → Quoted line quote
quoted line quote e =
    let found = position_cases is_quote line quote e in
    let low = found.0 in
    let same = found.1 in
    let byte : get_or line (position_or_len is_quote line) 0 ≡ 34 = eqb-true (get_or line (position_or_len is_quote line) 0) 34 (passes_at_first is_quote line 0 low) in
    let front : before_first is_quote line ≡ take quote line = ap (λ n. take n line) same in
    record {
      after = after_first is_quote line;
      parts = split_at_first is_quote line 0 low ∙ ap (λ b. before_first is_quote line ++ b ∷ after_first is_quote line) byte ∙ ap (λ f. f ++ 34 ∷ after_first is_quote line) front;
      front = front;
      long = omega (arith, low, same, length-take quote line);
      short = omega (arith, low, same);
    }

words_round : (line : List ℕ) (quote : ℕ) (front : List (List ℕ)) (last : List ℕ) → (q : Quoted line quote) → slice_split is_blank (take quote line) ≡ front ++ last ∷ []
    → words line ≡ filled front ++ (last ++ trimmed (34 ∷ q.after)) ∷ []
words_round line quote front last q e =
    ap (λ f. filled (extended (slice_split is_blank f) (trimmed (drop (length f) line)))) q.front
    ∙ ap (λ rest. filled (extended (slice_split is_blank (take quote line)) (trimmed rest))) (ap (drop (length (take quote line))) q.parts ∙ drop_at (take quote line) (34 ∷ q.after) (length (take quote line)) refl)
    ∙ ap (λ parts. filled (extended parts (trimmed (34 ∷ q.after)))) e
    ∙ ap filled (extended_last front last (trimmed (34 ∷ q.after)))
    ∙ filled_last front (last ++ trimmed (34 ∷ q.after)) (some_behind last 34 (trimmed q.after))

-- the words of a line up to its first quote, and the last of them with what stands from there on
pub words_to_quote : (line : List ℕ) (quote : ℕ) (front : List (List ℕ)) (last : List ℕ) → position is_quote line ≡ Some quote → slice_split is_blank (take quote line) ≡ front ++ last ∷ []
    → filled front ++ trimmed (drop (quote - length last) line) ∷ [] ≡ words line
words_to_quote line quote front last at e =
    let q = quoted line quote at in
    let ends = ends_of is_blank (take quote line) front last e in
    let both : length (take quote line) ≡ length (ends.before ++ last) = ap length ends.parts in
    let long = q.long in
    let start : length ends.before ≡ quote - length last = omega (arith, both, long, length-append ends.before last) in
    let whole : line ≡ ends.before ++ (last ++ 34 ∷ q.after) = q.parts ∙ ap (λ f. f ++ 34 ∷ q.after) ends.parts ∙ append_assoc ends.before last (34 ∷ q.after) in
    ap (λ l. filled front ++ trimmed (drop (quote - length last) l) ∷ []) whole
    ∙ ap (λ l. filled front ++ trimmed l ∷ []) (drop_at ends.before (last ++ 34 ∷ q.after) (quote - length last) start)
    ∙ ap (λ l. filled front ++ l ∷ []) (trimmed_more last (34 ∷ q.after) refl)
    ∙ sym (words_round line quote front last q e)

-- the last part is no longer than what was cut, and the quote stands in the line
pub last_is_short : (line : List ℕ) (quote : ℕ) (front : List (List ℕ)) (last : List ℕ) → position is_quote line ≡ Some quote → slice_split is_blank (take quote line) ≡ front ++ last ∷ []
    → (length last ≤ quote) × (quote ≤ length line)
last_is_short line quote front last at e =
    let q = quoted line quote at in
    let ends = ends_of is_blank (take quote line) front last e in
    let both : length (take quote line) ≡ length (ends.before ++ last) = ap length ends.parts in
    let long = q.long in
    let short = q.short in
    (omega (arith, both, long, length-append ends.before last), short)

pub quote_is_inside : (line : List ℕ) (quote : ℕ) → position is_quote line ≡ Some quote → quote ≤ length line
quote_is_inside line quote at = let q = quoted line quote at in q.short

-- a line without a quote
pub words_without : (line : List ℕ) → position is_quote line ≡ None → filled (slice_split is_blank line) ≡ words line
words_without line e =
    let past : length line ≤ position_or_len is_quote line = ltb-false (position_or_len is_quote line) (length line) (cond_none (ltb (position_or_len is_quote line) (length line)) (position_or_len is_quote line) e) in
    let front : before_first is_quote line ≡ line = take_all (position_or_len is_quote line) line past in
    sym (ap (λ f. filled (extended (slice_split is_blank f) (trimmed (drop (length f) line)))) front
    ∙ ap (λ rest. filled (extended (slice_split is_blank line) (trimmed rest))) (drop_all (length line) line (omega arith))
    ∙ ap filled (extended_none (slice_split is_blank line) (let many = length-slice_split is_blank line in omega (arith, many))))
  where
    extended_none : (parts : List (List ℕ)) → 0 < length parts → extended parts [] ≡ parts
    extended_none [] some = absurd (omega (arith, some))
    extended_none (part ∷ []) some = ap (λ p. p ∷ []) (append-nil part)
    extended_none (part ∷ next ∷ parts) some = ap (λ ps. part ∷ ps) (extended_none (next ∷ parts) (omega arith))

-- ---- a text has no more lines than bytes

one_at_most : (b : Bool) (part : List ℕ) → length (cond b [] (part ∷ [])) ≤ 1
one_at_most true part = omega arith
one_at_most false part = omega arith

lines_step : (x : ℕ) (parts : List (List ℕ)) (b : Bool) → 0 < length parts → length (lines_of_parts (cond b ([] ∷ parts) (onto_first x parts))) ≤ length (lines_of_parts parts) + 1
lines_step x [] b some = absurd (omega (arith, some))
lines_step x (part ∷ []) true some = omega arith
lines_step x (part ∷ next ∷ parts) true some = omega arith
lines_step x (part ∷ []) false some = let few = one_at_most (is_empty (x ∷ part)) (x ∷ part) in omega (arith, few)
lines_step x (part ∷ next ∷ parts) false some = omega arith

pub lines_are_few : (text : List ℕ) → length (lines_of text) ≤ length text
lines_are_few [] = omega arith
lines_are_few (x ∷ xs) =
    let rest = lines_are_few xs in
    let many = length-slice_split is_line_feed xs in
    let step = lines_step x (slice_split is_line_feed xs) (is_line_feed x) (omega (arith, many)) in
    omega (arith, rest, step)
