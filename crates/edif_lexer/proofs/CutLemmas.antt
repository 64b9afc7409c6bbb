-- A list that is cut at its first separator.
use Rattle.std.proofs.Common.{◌≡◌, ℕ, ◌+◌, ◌-◌, ◌<◌, ◌≤◌, Bool, true, false, cond, ◌&&◌, List, [], ◌∷◌, ◌++◌, length, take, drop, None, Some, refl, sym, ap, ◌∙◌, arith, ltb}
use Rattle.std.proofs.lemmas.Bool.{ltb-true, ltb-false}
use Rattle.std.proofs.lemmas.List.{take_rest}
use Rattle.std.proofs.lemmas.List.Sums.{fails_before_first}
use Rattle.std.proofs.lemmas.List.Splits.{slice_split_first, slice_split_none}
use Rattle.std.specs.List.{slice_split, position, position_or_len}
use Rattle.edif_spelling_spec.specs.Bytes.{is_space}
use Rattle.edif_spelling_spec.specs.Strings.{are_codes, codes_of, is_escape, codes}
use Rattle.edif_spelling_spec.proofs.EscapeLemmas.{are_codes-cons, codes_of-cons}

cond_some : (t : Bool) (k n : ℕ) → cond t (Some k) None ≡ Some n → (t ≡ true) × (k ≡ n)
cond_some true k n e = (refl, cc)
cond_some false k n e = cc

pub cond_none : (t : Bool) (k : ℕ) → cond t (Some k) None ≡ None → t ≡ false
cond_none true k e = cc
cond_none false k e = refl

pub position_cases : (p : ℕ → Bool) (xs : List ℕ) (n : ℕ) → position p xs ≡ Some n → (position_or_len p xs < length xs) × (position_or_len p xs ≡ n)
position_cases p xs n e = let found = cond_some (ltb (position_or_len p xs) (length xs)) (position_or_len p xs) n e in (ltb-true (position_or_len p xs) (length xs) found.0, found.1)

pub cut_some : (p : ℕ → Bool) (xs : List ℕ) (n : ℕ) → position p xs ≡ Some n → slice_split p xs ≡ take n xs ∷ slice_split p (take (length xs - (n + 1)) (drop (n + 1) xs))
cut_some p xs n e =
    let found = position_cases p xs n e in
    slice_split_first p xs 0 found.0 ∙ ap (λ k. take k xs ∷ slice_split p (drop (k + 1) xs)) found.1
    ∙ ap (λ l. take n xs ∷ slice_split p l) (sym (take_rest xs (n + 1)))

pub cut_none : (p : ℕ → Bool) (xs : List ℕ) → position p xs ≡ None → slice_split p xs ≡ xs ∷ []
cut_none p xs e =
    let past : length xs ≤ position_or_len p xs = ltb-false (position_or_len p xs) (length xs) (cond_none (ltb (position_or_len p xs) (length xs)) (position_or_len p xs) e) in
    slice_split_none p xs (λ i d h. fails_before_first p xs i d (omega arith))

-- what a part was, and what the others are
pub are_codes_more : (left part : List ℕ) (parts : List (List ℕ)) → slice_split is_space left ≡ part ∷ parts → are_codes (part ∷ []) ≡ true → is_escape left ≡ are_codes parts
are_codes_more left part parts e t = ap are_codes e ∙ are_codes-cons part parts ∙ ap (λ b. b && are_codes parts) t

pub are_codes_stop : (left part : List ℕ) (parts : List (List ℕ)) → slice_split is_space left ≡ part ∷ parts → are_codes (part ∷ []) ≡ false → is_escape left ≡ false
are_codes_stop left part parts e f = ap are_codes e ∙ are_codes-cons part parts ∙ ap (λ b. b && are_codes parts) f

pub codes_of_more : (left part : List ℕ) (parts : List (List ℕ)) → slice_split is_space left ≡ part ∷ parts → codes left ≡ codes_of (part ∷ []) ++ codes_of parts
codes_of_more left part parts e = ap codes_of e ∙ codes_of-cons part parts
