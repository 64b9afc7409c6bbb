-- The codes of an escape part after part, and the bytes of a string escape after escape.
use Rattle.std.proofs.Common.{◌≡◌, ℕ, ◌+◌, ◌<◌, Bool, true, false, not, cond, ◌&&◌, List, [], ◌∷◌, ◌++◌, length, map, Some, refl, sym, ap, ◌∙◌, arith}
use Rattle.std.proofs.Math.Bool.{and-true}
use Rattle.std.proofs.lemmas.List.Splits.{length-slice_split}
use Rattle.std.specs.List.{list_all}
use Rattle.std.specs.Str.Parse.{digits_value}
use Rattle.edif_spelling_spec.specs.Bytes.{is_percent}
use Rattle.edif_spelling_spec.specs.Names.{is_empty}
use Rattle.edif_spelling_spec.specs.Strings.{is_code, code_texts, are_codes, codes_of, is_escape, codes, segments, value, escape_fault}

-- the codes of parts, one part after another
pub are_codes-cons : (part : List ℕ) (parts : List (List ℕ)) → are_codes (part ∷ parts) ≡ (are_codes (part ∷ []) && are_codes parts)
unfolding are_codes
are_codes-cons part parts = elim (is_empty part) as (λ b. list_all is_code (cond (not b) (part ∷ code_texts parts) (code_texts parts)) ≡ (list_all is_code (cond (not b) (part ∷ []) []) && list_all is_code (code_texts parts))) [ true ↦ refl | false ↦ ap (λ t. t && list_all is_code (code_texts parts)) (sym (and-true (is_code part))) ]

pub codes_of-cons : (part : List ℕ) (parts : List (List ℕ)) → codes_of (part ∷ parts) ≡ codes_of (part ∷ []) ++ codes_of parts
unfolding codes_of
codes_of-cons part parts = elim (is_empty part) as (λ b. map (digits_value 10) (cond (not b) (part ∷ code_texts parts) (code_texts parts)) ≡ map (digits_value 10) (cond (not b) (part ∷ []) []) ++ map (digits_value 10) (code_texts parts)) [ true ↦ refl | false ↦ refl ]

-- no part, and a part with nothing in it, stand for nothing
pub are_codes-none : are_codes [] ≡ true
unfolding are_codes
are_codes-none = refl

pub codes_of-none : codes_of [] ≡ []
unfolding codes_of
codes_of-none = refl

pub are_codes_empty : (part : List ℕ) → length part ≡ 0 → are_codes (part ∷ []) ≡ true
unfolding are_codes
are_codes_empty [] e = refl
are_codes_empty (b ∷ bs) e = absurd (omega arith)

pub codes_of_empty : (part : List ℕ) → length part ≡ 0 → codes_of (part ∷ []) ≡ []
unfolding codes_of
codes_of_empty [] e = refl
codes_of_empty (b ∷ bs) e = absurd (omega arith)

-- one part with something in it
not_empty : (part : List ℕ) → 0 < length part → is_empty part ≡ false
not_empty part l = grind arith

pub are_codes_one : (part : List ℕ) → 0 < length part → are_codes (part ∷ []) ≡ is_code part
unfolding are_codes
are_codes_one part l = ap (λ t. list_all is_code (cond (not t) (part ∷ []) [])) (not_empty part l) ∙ and-true (is_code part)

pub codes_of_one : (part : List ℕ) → 0 < length part → codes_of (part ∷ []) ≡ digits_value 10 part ∷ []
unfolding codes_of
codes_of_one part l = ap (λ t. map (digits_value 10) (cond (not t) (part ∷ []) [])) (not_empty part l)

-- there is always a first part
segments_some : (bytes : List ℕ) → 0 < length (segments bytes)
segments_some bytes = omega (arith, length-slice_split is_percent bytes)

fault_more : (closed : Bool) (at : ℕ) (plain escape : List ℕ) (parts : List (List ℕ)) → 0 < length parts → is_escape escape ≡ true → escape_fault closed at (plain ∷ escape ∷ parts) ≡ escape_fault closed (at + length plain + length escape + 2) parts
fault_more closed at plain escape [] l e = absurd (omega arith)
fault_more closed at plain escape (next ∷ more) l e = ap (λ t. cond t (escape_fault closed (at + length plain + length escape + 2) (next ∷ more)) (Some (at + length plain))) e

-- past one escape
pub escape_fault_more : (closed : Bool) (at : ℕ) (left plain after escape rest : List ℕ) → segments left ≡ plain ∷ segments after → segments after ≡ escape ∷ segments rest → is_escape escape ≡ true → escape_fault closed at (segments left) ≡ escape_fault closed (at + length plain + (length escape + 2)) (segments rest)
escape_fault_more closed at left plain after escape rest e f t =
    ap (escape_fault closed at) (e ∙ ap (λ l. plain ∷ l) f) ∙ fault_more closed at plain escape (segments rest) (segments_some rest) t
    ∙ ap (λ n. escape_fault closed n (segments rest)) (omega arith)

pub value_more : (left plain after escape rest : List ℕ) → segments left ≡ plain ∷ segments after → segments after ≡ escape ∷ segments rest → value (segments left) ≡ plain ++ codes escape ++ value (segments rest)
value_more left plain after escape rest e f = ap value (e ∙ ap (λ l. plain ∷ l) f)
