-- The names in a text, and the texts that names have.
use Rattle.std.proofs.Common.{◌≡◌, ◌⊎◌, ℕ, List, [], ◌∷◌, ◌++◌, length, map, Bool, true, false, cond, refl, sym, ap, subst, ◌∙◌, inl, inr, arith, append-nil}
use Rattle.std.specs.Prelude.{codes}
use Rattle.std.specs.List.{AllByRecursion, flat_map, join_with_byte, slice_split}
use Rattle.std.proofs.lemmas.Bool.{eqb-true}
use Rattle.std.proofs.lemmas.List.Splits.{join_with_byte-slice_split, length-slice_split, slice_split-cons_yes}
use Rattle.netlist_schema.specs.Ident.{IsIdentifier}
use Rattle.flat_lines_spec.specs.Lines.{names_text}
use Rattle.script_spec.specs.Lines.{path_piece}
use Rattle.script_spec.specs.Pieces.{Named, SpellAtoms, SpellsPiece, joined}
use Rattle.script_spec.proofs.OneStep.{names_free}
use Rattle.script_spec.proofs.Spelled.{parts_spelled}
use Rattle.ask_names.specs.Places.{is_slash, names_behind, names_in}

-- ---- identifiers as words

spell_themselves : (names : List (List ℕ)) → AllByRecursion IsIdentifier names → SpellAtoms names (map Named names)
spell_themselves [] all = tt
spell_themselves (name ∷ names) all = ((refl, all.0), spell_themselves names all.1)

spell_only : (parts names : List (List ℕ)) → SpellAtoms parts (map Named names) → parts ≡ names
spell_only [] [] s = refl
spell_only [] (name ∷ names) s = absurd s
spell_only (part ∷ parts) [] s = absurd s
spell_only (part ∷ parts) (name ∷ names) s = λ i. s.0.0 i ∷ spell_only parts names s.1 i

no_bytes : (id : List ℕ) → id ≡ [] → IsIdentifier id → ⊥
no_bytes id e is = let none : length id ≡ 0 = ap length e in omega (arith, none, is.0)

no_empty_part : (parts names : List (List ℕ)) → SpellAtoms ([] ∷ parts) (map Named names) → ⊥
no_empty_part parts [] s = s
no_empty_part parts (name ∷ names) s = no_bytes name (sym s.0.0) s.0.1

-- ---- from a text to its names

pub behind_are : (text : List ℕ) (names : List (List ℕ)) → SpellAtoms (slice_split is_slash text) (map Named names) → names_behind text ≡ names
behind_are [] names s = absurd (no_empty_part [] names s)
behind_are (b ∷ text) names s = spell_only (slice_split is_slash (b ∷ text)) names s

pub names_are : (text : List ℕ) (names : List (List ℕ)) → SpellAtoms (slice_split is_slash text) (map Named names) → names_in text ≡ names
names_are [] names s = spell_only (slice_split is_slash []) names s
names_are (b ∷ text) names s = by_first (is_slash b) refl
  where
    by_first : (t : Bool) → is_slash b ≡ t → names_in (b ∷ text) ≡ names
    by_first true e = absurd (no_empty_part (slice_split is_slash text) names (subst (λ (parts : List (List ℕ)). SpellAtoms parts (map Named names)) (slice_split-cons_yes is_slash b text e) s))
    by_first false e = ap (λ (t : Bool). cond t (names_behind text) (slice_split is_slash (b ∷ text))) e ∙ spell_only (slice_split is_slash (b ∷ text)) names s

parts_are : (text : List ℕ) (names : List (List ℕ)) → SpellsPiece text (path_piece names) → SpellAtoms (slice_split is_slash text) (map Named names)
parts_are text names s = parts_spelled 47 text (map Named names) (names_free 47 names refl) s

pub script_names : (text : List ℕ) (names : List (List ℕ)) → SpellsPiece text (path_piece names) → names_in text ≡ names
script_names text names s = names_are text names (parts_are text names s)

-- `/` before each name is one before them all
slashed : (name : List ℕ) (names : List (List ℕ)) → flat_map (λ n. codes "/" ++ n) (name ∷ names) ≡ 47 ∷ joined 47 (name ∷ names)
slashed name [] = ap (λ (t : List ℕ). 47 ∷ t) (append-nil name)
slashed name (next ∷ names) = ap (λ (t : List ℕ). 47 ∷ (name ++ t)) (slashed next names)

pub flat_names : (names : List (List ℕ)) → AllByRecursion IsIdentifier names → names_in (names_text names) ≡ names
flat_names [] all = refl
flat_names (name ∷ names) all =
    let text : List ℕ = joined 47 (name ∷ names) in
    let spelled : SpellsPiece text (path_piece (name ∷ names)) = (name ∷ names, refl, omega arith, spell_themselves (name ∷ names) all) in
    ap names_in (slashed name names) ∙ behind_are text (name ∷ names) (parts_are text (name ∷ names) spelled)

-- ---- from names back to the text

join_parts : (mark : ℕ) (words : List (List ℕ)) → joined mark words ≡ join_with_byte mark words
join_parts mark [] = refl
join_parts mark (word ∷ []) = refl
join_parts mark (word ∷ next ∷ words) = ap (λ (rest : List ℕ). word ++ mark ∷ rest) (join_parts mark (next ∷ words))

joined_again : (text : List ℕ) (names : List (List ℕ)) → slice_split is_slash text ≡ names → joined 47 names ≡ text
joined_again text names e = ap (joined 47) (sym e) ∙ join_parts 47 (slice_split is_slash text) ∙ join_with_byte-slice_split 47 text

-- the text shows the names with a `/` before each, or spells them
abbrev pub HasNames : List ℕ → List (List ℕ) → Type 0
HasNames text names = (text ≡ names_text names) ⊎ SpellsPiece text (path_piece names)

shown : (text : List ℕ) (names : List (List ℕ)) → slice_split is_slash text ≡ names → 47 ∷ text ≡ names_text names
shown text [] e = let none : length (slice_split is_slash text) ≡ 0 = ap length e in absurd (omega (arith, none, length-slice_split is_slash text))
shown text (name ∷ names) e = ap (λ (t : List ℕ). 47 ∷ t) (sym (joined_again text (name ∷ names) e)) ∙ sym (slashed name names)

spelled_so : (text : List ℕ) (names : List (List ℕ)) → AllByRecursion IsIdentifier names → slice_split is_slash text ≡ names → SpellsPiece text (path_piece names)
spelled_so text names all e =
    let many : length (slice_split is_slash text) ≡ length names = ap length e in
    (names, sym (joined_again text names e), omega (arith, many, length-slice_split is_slash text), spell_themselves names all)

slash_only : (b : ℕ) → is_slash b ≡ true → b ≡ 47
slash_only b e = eqb-true b 47 e

from_behind : (text : List ℕ) (names : List (List ℕ)) → names_behind text ≡ names → 47 ∷ text ≡ names_text names
from_behind [] names e = ap names_text e
from_behind (b ∷ text) names e = shown (b ∷ text) names e

pub text_of_names : (text : List ℕ) (names : List (List ℕ)) → AllByRecursion IsIdentifier names → names_in text ≡ names → HasNames text names
text_of_names [] names all e = inr (spelled_so [] names all e)
text_of_names (b ∷ text) names all e = by_first (is_slash b) refl
  where
    by_first : (t : Bool) → is_slash b ≡ t → HasNames (b ∷ text) names
    by_first true is =
        let behind : names_behind text ≡ names = sym (ap (λ (t : Bool). cond t (names_behind text) (slice_split is_slash (b ∷ text))) is) ∙ e in
        inl (ap (λ (v : ℕ). v ∷ text) (slash_only b is) ∙ from_behind text names behind)
    by_first false is =
        let split : slice_split is_slash (b ∷ text) ≡ names = sym (ap (λ (t : Bool). cond t (names_behind text) (slice_split is_slash (b ∷ text))) is) ∙ e in
        inr (spelled_so (b ∷ text) names all split)

-- ---- a text by its first byte

pub with_slash : (text : List ℕ) (b : ℕ) (rest : List ℕ) → text ≡ b ∷ rest → is_slash b ≡ true → names_in text ≡ names_behind rest
with_slash text b rest e t = ap names_in e ∙ ap (λ (v : Bool). cond v (names_behind rest) (slice_split is_slash (b ∷ rest))) t

pub without_slash : (text : List ℕ) (b : ℕ) (rest : List ℕ) → text ≡ b ∷ rest → is_slash b ≡ false → names_in text ≡ slice_split is_slash text
without_slash text b rest e t = ap names_in e ∙ ap (λ (v : Bool). cond v (names_behind rest) (slice_split is_slash (b ∷ rest))) t ∙ ap (slice_split is_slash) (sym e)

pub no_text : (text : List ℕ) → length text ≡ 0 → names_in text ≡ slice_split is_slash text
no_text [] e = refl
no_text (b ∷ text) e = absurd (omega (arith, e))

pub something_behind : (text : List ℕ) (b : ℕ) (rest : List ℕ) → text ≡ b ∷ rest → slice_split is_slash text ≡ names_behind text
something_behind [] b rest e = let none : length (b ∷ rest) ≡ 0 = ap length (sym e) in absurd (omega (arith, none))
something_behind (x ∷ text) b rest e = refl

pub nothing_behind : (text : List ℕ) → length text ≡ 0 → names_behind text ≡ []
nothing_behind [] e = refl
nothing_behind (b ∷ text) e = absurd (omega (arith, e))
