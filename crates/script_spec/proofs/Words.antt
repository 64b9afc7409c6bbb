-- Words with one blank between each two are the words of that line; the last may be a string.
use Rattle.std.proofs.Common.{◌≡◌, ◌∙◌, ℕ, suc, ◌+◌, List, [], ◌∷◌, ◌++◌, Bool, true, false, not, ◌&&◌, length, take, drop, refl, ap, sym, arith, append_assoc, append-nil}
use Rattle.std.specs.Prelude.{filter, cond, codes}
use Rattle.std.specs.List.{All, AllByRecursion, list_all, before_first, position_or_len, slice_split}
use Rattle.std.proofs.lemmas.Bool.{and_parts, and_from, not-true}
use Rattle.std.proofs.lemmas.List.{drop_all, drop_at}
use Rattle.std.proofs.lemmas.List.Elements.{All-from_recursion}
use Rattle.std.proofs.lemmas.List.Folds.{list_all-append}
use Rattle.std.proofs.lemmas.List.Splits.{slice_split_at, slice_split_none}
use Rattle.edif_spelling_spec.specs.Bytes.{is_quote}
use Rattle.edif_spelling_spec.specs.Names.{is_empty}
use Rattle.flat_lines_spec.specs.Lines.{spaced}
use Rattle.script_spec.specs.ScriptText.{extended, is_blank, trimmed, words}

-- a byte of a word that is no string
abbrev pub is_bare_byte : ℕ → Bool
is_bare_byte b = not (is_blank b) && not (is_quote b)

abbrev pub are_bare : List ℕ → Bool
are_bare bytes = list_all is_bare_byte bytes

abbrev pub is_bare : List ℕ → Bool
is_bare word = not (is_empty word) && are_bare word

abbrev pub AreBare : List (List ℕ) → Type 0
AreBare [] = Unit {0}
AreBare (word ∷ words) = (is_bare word ≡ true) × AreBare words

no_blank : (b : ℕ) → is_bare_byte b ≡ true → is_blank b ≡ false
no_blank b e = not-true (is_blank b) (and_parts (not (is_blank b)) (not (is_quote b)) e).0

-- ---- the bytes before the first quote

-- no quote is among the bytes
abbrev unquoted : List ℕ → Bool
unquoted bytes = list_all (λ b. not (is_quote b)) bytes

longer : (n x : ℕ) (xs : List ℕ) → take (1 + n) (x ∷ xs) ≡ x ∷ take n xs
longer n x xs = let e : 1 + n ≡ suc n = omega arith in ap (λ k. take k (x ∷ xs)) e

before_none : (xs : List ℕ) → unquoted xs ≡ true → before_first is_quote xs ≡ xs
before_none [] u = refl
before_none (x ∷ xs) u =
    let p = and_parts (not (is_quote x)) (unquoted xs) u in
    let n = position_or_len is_quote xs in
    ap (λ b. take (cond b (1 + n) 0) (x ∷ xs)) p.0 ∙ longer n x xs ∙ ap (λ ys. x ∷ ys) (before_none xs p.1)

before_quote : (xs more : List ℕ) → unquoted xs ≡ true → before_first is_quote (xs ++ 34 ∷ more) ≡ xs
before_quote [] more u = refl
before_quote (x ∷ xs) more u =
    let p = and_parts (not (is_quote x)) (unquoted xs) u in
    let n = position_or_len is_quote (xs ++ 34 ∷ more) in
    ap (λ b. take (cond b (1 + n) 0) (x ∷ (xs ++ 34 ∷ more))) p.0 ∙ longer n x (xs ++ 34 ∷ more) ∙ ap (λ ys. x ∷ ys) (before_quote xs more p.1)

bare_unquoted : (xs : List ℕ) → are_bare xs ≡ true → unquoted xs ≡ true
bare_unquoted [] e = refl
bare_unquoted (x ∷ xs) e =
    let p = and_parts (is_bare_byte x) (are_bare xs) e in
    and_from (not (is_quote x)) (unquoted xs) (and_parts (not (is_blank x)) (not (is_quote x)) p.0).1 (bare_unquoted xs p.1)

unquoted_append : (xs ys : List ℕ) → unquoted xs ≡ true → unquoted ys ≡ true → unquoted (xs ++ ys) ≡ true
unquoted_append xs ys a b = list_all-append (λ (c : ℕ). not (is_quote c)) xs ys ∙ and_from (unquoted xs) (unquoted ys) a b

word_bare : (word : List ℕ) → is_bare word ≡ true → are_bare word ≡ true
word_bare word e = (and_parts (not (is_empty word)) (are_bare word) e).1

spaced_unquoted : (ws : List (List ℕ)) → AreBare ws → unquoted (spaced ws) ≡ true
spaced_unquoted [] a = refl
spaced_unquoted (w ∷ []) a = bare_unquoted w (word_bare w a.0)
spaced_unquoted (w ∷ next ∷ ws) a =
    unquoted_append (w ++ codes " ") (spaced (next ∷ ws)) (unquoted_append w (codes " ") (bare_unquoted w (word_bare w a.0)) refl) (spaced_unquoted (next ∷ ws) a.1)

-- ---- parts between blanks

blank_free_each : (word : List ℕ) → are_bare word ≡ true → AllByRecursion (λ b. is_blank b ≡ false) word
blank_free_each [] e = tt
blank_free_each (b ∷ word) e = let p = and_parts (is_bare_byte b) (are_bare word) e in (no_blank b p.0, blank_free_each word p.1)

blank_free : (word : List ℕ) → is_bare word ≡ true → All (λ b. is_blank b ≡ false) word
blank_free word e = All-from_recursion (λ b. is_blank b ≡ false) word (blank_free_each word (word_bare word e))

split_spaced : (word : List ℕ) (others : List (List ℕ)) → AreBare (word ∷ others) → slice_split is_blank (spaced (word ∷ others)) ≡ word ∷ others
split_spaced word [] a = slice_split_none is_blank word (blank_free word a.0)
split_spaced word (next ∷ others) a =
    ap (slice_split is_blank) (append_assoc word (codes " ") (spaced (next ∷ others)))
    ∙ slice_split_at is_blank word 32 (spaced (next ∷ others)) (blank_free word a.0) refl
    ∙ ap (λ rest. word ∷ rest) (split_spaced next others a.1)

split_blank : (word : List ℕ) (others : List (List ℕ)) → AreBare (word ∷ others) → slice_split is_blank (spaced (word ∷ others) ++ 32 ∷ []) ≡ (word ∷ others) ++ [] ∷ []
split_blank word [] a = slice_split_at is_blank word 32 [] (blank_free word a.0) refl
split_blank word (next ∷ others) a =
    ap (slice_split is_blank) (append_assoc (word ++ codes " ") (spaced (next ∷ others)) (32 ∷ []) ∙ append_assoc word (codes " ") (spaced (next ∷ others) ++ 32 ∷ []))
    ∙ slice_split_at is_blank word 32 (spaced (next ∷ others) ++ 32 ∷ []) (blank_free word a.0) refl
    ∙ ap (λ rest. word ∷ rest) (split_blank next others a.1)

-- ---- the words

extended_none : (part : List ℕ) (parts : List (List ℕ)) → extended (part ∷ parts) [] ≡ part ∷ parts
extended_none part [] = ap (λ p. p ∷ []) (append-nil part)
extended_none part (next ∷ parts) = ap (λ ps. part ∷ ps) (extended_none next parts)

extended_last : (parts : List (List ℕ)) (more : List ℕ) → extended (parts ++ [] ∷ []) more ≡ parts ++ more ∷ []
extended_last [] more = refl
extended_last (part ∷ []) more = refl
extended_last (part ∷ next ∷ parts) more = ap (λ ps. part ∷ ps) (extended_last (next ∷ parts) more)

-- the words that are not empty
abbrev filled : List (List ℕ) → List (List ℕ)
filled parts = filter (λ word. not (is_empty word)) parts

one_filled : (word : List ℕ) (rest : List (List ℕ)) → not (is_empty word) ≡ true → filled (word ∷ rest) ≡ word ∷ filled rest
one_filled word rest e = ap (λ b. cond b (word ∷ filled rest) (filled rest)) e

some_bytes : (b : ℕ) (bytes : List ℕ) → not (is_empty (b ∷ bytes)) ≡ true
some_bytes b bytes = grind arith

all_filled : (ws rest : List (List ℕ)) → AreBare ws → filled (ws ++ rest) ≡ ws ++ filled rest
all_filled [] rest a = refl
all_filled (w ∷ ws) rest a = one_filled w (ws ++ rest) (and_parts (not (is_empty w)) (are_bare w) a.0).0 ∙ ap (λ xs. w ∷ xs) (all_filled ws rest a.1)

-- the words of a line, from the bytes before its first quote
abbrev words_with : List ℕ → List ℕ → List (List ℕ)
words_with front line = filled (extended (slice_split is_blank front) (trimmed (drop (length front) line)))

pub bare_words : (w : List ℕ) (ws : List (List ℕ)) → AreBare (w ∷ ws) → words (spaced (w ∷ ws)) ≡ w ∷ ws
bare_words w ws a =
    let line = spaced (w ∷ ws) in
    ap (λ front. words_with front line) (before_none line (spaced_unquoted (w ∷ ws) a))
    ∙ ap (λ rest. filled (extended (slice_split is_blank line) (trimmed rest))) (drop_all (length line) line (omega arith))
    ∙ ap (λ parts. filled (extended parts [])) (split_spaced w ws a)
    ∙ ap filled (extended_none w ws)
    ∙ ap filled (sym (append-nil (w ∷ ws)))
    ∙ all_filled (w ∷ ws) [] a
    ∙ append-nil (w ∷ ws)

-- a string and what stands before it
pub string_words : (w : List ℕ) (ws : List (List ℕ)) (more : List ℕ) → AreBare (w ∷ ws) → trimmed (34 ∷ more) ≡ 34 ∷ more
    → words (spaced (w ∷ ws) ++ (32 ∷ 34 ∷ more)) ≡ (w ∷ ws) ++ (34 ∷ more) ∷ []
string_words w ws more a t =
    let front = spaced (w ∷ ws) ++ 32 ∷ [] in
    let line = front ++ 34 ∷ more in
    ap words (sym (append_assoc (spaced (w ∷ ws)) (32 ∷ []) (34 ∷ more)))
    ∙ ap (λ f. words_with f line) (before_quote front more (unquoted_append (spaced (w ∷ ws)) (32 ∷ []) (spaced_unquoted (w ∷ ws) a) refl))
    ∙ ap (λ rest. filled (extended (slice_split is_blank front) (trimmed rest))) (drop_at front (34 ∷ more) (length front) refl)
    ∙ ap (λ rest. filled (extended (slice_split is_blank front) rest)) t
    ∙ ap (λ parts. filled (extended parts (34 ∷ more))) (split_blank w ws a)
    ∙ ap filled (extended_last (w ∷ ws) (34 ∷ more))
    ∙ all_filled (w ∷ ws) ((34 ∷ more) ∷ []) a
    ∙ ap (λ rest. (w ∷ ws) ++ rest) (one_filled (34 ∷ more) [] (some_bytes 34 more))

-- bytes that end with no blank
not_all_blank : (xs : List ℕ) (b : ℕ) → is_blank b ≡ false → list_all is_blank (xs ++ b ∷ []) ≡ false
not_all_blank [] b e = ap (λ t. t && true) e
not_all_blank (x ∷ xs) b e = ap (λ t. is_blank x && t) (not_all_blank xs b e) ∙ both (is_blank x)
  where
    both : (t : Bool) → (t && false) ≡ false
    both true = refl
    both false = refl

pub trimmed_end : (xs : List ℕ) (b : ℕ) → is_blank b ≡ false → trimmed (xs ++ b ∷ []) ≡ xs ++ b ∷ []
trimmed_end [] b e = ap (λ t. cond (t && true) [] (b ∷ [])) e
trimmed_end (x ∷ xs) b e =
    ap (λ t. cond t [] (x ∷ trimmed (xs ++ b ∷ []))) (not_all_blank (x ∷ xs) b e) ∙ ap (λ ys. x ∷ ys) (trimmed_end xs b e)
