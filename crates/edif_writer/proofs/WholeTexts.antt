-- The texts of libraries and of whole designs.
use Rattle.std.proofs.Common.{Option, ◌≡◌, ◌<◌, ◌+◌, ℕ, suc, pos, Bool, true, false, List, [], ◌∷◌, ◌++◌, length, map, take, Some, refl, ap, sym, ◌∙◌, append_assoc, append-nil, lit<, inl, inr, arith}
use Rattle.std.specs.Prelude.{codes, slice_get}
use Rattle.std.proofs.lemmas.Fmt.{decimal_digit}
use Rattle.std.proofs.lemmas.Option.{slice_get_cases}
use Rattle.edif_spelling_spec.specs.Tree.{Bare, word, integer, form}
use Rattle.edif_spec.specs.Canonical.{layout, make, new_line, name_text, name_tree, zero_tree, library_keyword, library_tree, cell_tree, design_tree, perhaps, text_as_listed, head_of, large_forms}
use Rattle.edif_spec.specs.Design as design
use Rattle.edif_spec.specs.Keyword.{spelling_of}
use Rattle.edif_spec.specs.declared.keyword.Keyword.TheVariants as keywords
use Rattle.edif_writer.specs.Lines.{lined}
use Rattle.netdb_outside.specs.Buffered.{Buffered, Writes}
use Rattle.netdb_outside.proofs.BufferedLemmas.{writes_then, writes_same}
use Rattle.edif_writer.proofs.FormTexts.{large_form, one_more, lined-append}

zero_level : layout 3 (zero_tree keywords.EdifLevel) ≡ codes "(edifLevel 0)"
zero_level = rw (decimal_digit 0 (lit< tt)) refl

is_large : (external : Bool) → head_of large_forms (spelling_of (library_keyword external)) ≡ Some 1
is_large false = refl
is_large true = refl

library_parts : (o s a m z n t c e : List ℕ) → o ++ (s ++ (a ++ ((m ++ z) ++ ((n ++ t) ++ (c ++ e))))) ≡ o ++ ((((s ++ a) ++ []) ++ ((m ++ z) ++ ((n ++ t) ++ c))) ++ e)
library_parts o s a m z n t c e = simp (append_assoc, append-nil)

-- the text of a library
pub library_text : (libs : List design.Lib) (l : design.Lib)
    → (40 ∷ name_text (spelling_of (library_keyword l.head.external))) ++ (codes " " ++ (layout 3 (name_tree l.head.name)
    ++ (codes "\n  (edifLevel 0)\n  (technology (numberDefinition))" ++ (lined 2 (map (cell_tree libs) l.cells) ++ codes ")")))) ≡ layout 2 (library_tree libs l)
library_text libs l =
    let k = library_keyword l.head.external in
    let a = layout 3 (name_tree l.head.name) in
    let cells = map (cell_tree libs) l.cells in
    let technology = make keywords.Technology (form (word (codes "numberDefinition") ∷ []) ∷ []) in
    library_parts (40 ∷ name_text (spelling_of k)) (codes " ") a (new_line 2) (codes "(edifLevel 0)") (new_line 2) (codes "(technology (numberDefinition))") (lined 2 cells) (codes ")")
    ∙ (ap (λ z. (40 ∷ name_text (spelling_of k)) ++ ((((codes " " ++ a) ++ []) ++ ((new_line 2 ++ z) ++ ((new_line 2 ++ codes "(technology (numberDefinition))") ++ lined 2 cells))) ++ codes ")")) (sym zero_level)
    ∙ sym (large_form 2 k (name_tree l.head.name ∷ []) (zero_tree keywords.EdifLevel ∷ technology ∷ cells) (is_large l.head.external)))

version_line : layout 2 (make keywords.EdifVersion (integer (pos 2) ∷ integer (pos 0) ∷ integer (pos 0) ∷ [])) ≡ codes "(edifVersion 2 0 0)"
version_line = rw (decimal_digit 2 (lit< tt), decimal_digit 0 (lit< tt)) refl

level_line : layout 2 (zero_tree keywords.EdifLevel) ≡ codes "(edifLevel 0)"
level_line = rw (decimal_digit 0 (lit< tt)) refl

map_line : layout 2 (make keywords.KeywordMap (zero_tree keywords.KeywordLevel ∷ [])) ≡ codes "(keywordMap (keywordLevel 0))"
map_line = rw (decimal_digit 0 (lit< tt)) refl

text_parts : (s a m v l k c d e f : List ℕ) → s ++ (a ++ ((m ++ (v ++ (m ++ (l ++ (m ++ k))))) ++ (c ++ (d ++ (e ++ f))))) ≡ ((((s ++ a) ++ []) ++ ((m ++ v) ++ ((m ++ l) ++ ((m ++ k) ++ (c ++ d))))) ++ e) ++ f
text_parts s a m v l k c d e f = simp (append_assoc, append-nil)

-- the text of a design
pub design_text : (d : design.Design)
    → codes "(edif " ++ (layout 2 (name_tree d.title) ++ (codes "\n (edifVersion 2 0 0)\n (edifLevel 0)\n (keywordMap (keywordLevel 0))"
    ++ (lined 1 (map (library_tree d.libs) d.libs) ++ (lined 1 (perhaps (design_tree d.libs d.notes) d.top) ++ codes ")\n")))) ≡ text_as_listed d
design_text d =
    let a = layout 2 (name_tree d.title) in
    let libs = map (library_tree d.libs) d.libs in
    let top = perhaps (design_tree d.libs d.notes) d.top in
    let version = make keywords.EdifVersion (integer (pos 2) ∷ integer (pos 0) ∷ integer (pos 0) ∷ []) in
    let level = zero_tree keywords.EdifLevel in
    let keyword_map = make keywords.KeywordMap (zero_tree keywords.KeywordLevel ∷ []) in
    let T : List ℕ → List ℕ → List ℕ → List ℕ → List ℕ = λ v l k r. codes "(edif" ++ (((((codes " " ++ a) ++ []) ++ ((new_line 1 ++ v) ++ ((new_line 1 ++ l) ++ ((new_line 1 ++ k) ++ r)))) ++ codes ")") ++ codes "\n") in
    ap (λ v. codes "(edif" ++ v) (text_parts (codes " ") a (new_line 1) (codes "(edifVersion 2 0 0)") (codes "(edifLevel 0)") (codes "(keywordMap (keywordLevel 0))") (lined 1 libs) (lined 1 top) (codes ")") (codes "\n"))
    ∙ (ap (λ r. T (codes "(edifVersion 2 0 0)") (codes "(edifLevel 0)") (codes "(keywordMap (keywordLevel 0))") r) (sym (lined-append 1 libs top))
    ∙ (ap (λ v. T v (codes "(edifLevel 0)") (codes "(keywordMap (keywordLevel 0))") (lined 1 (libs ++ top))) (sym version_line)
    ∙ (ap (λ l. T (layout 2 version) l (codes "(keywordMap (keywordLevel 0))") (lined 1 (libs ++ top))) (sym level_line)
    ∙ (ap (λ k. T (layout 2 version) (layout 2 level) k (lined 1 (libs ++ top))) (sym map_line)
    ∙ ap (λ v. v ++ codes "\n") (sym (large_form 1 keywords.Edif (name_tree d.title ∷ []) (version ∷ level ∷ keyword_map ∷ (libs ++ top)) refl))))))

-- of a list, one more line
pub writes_line : {X K : Type 0} {written : K → Option (List ℕ)} {faults : K → ℕ} {j k l : K} {before page after : Buffered} (level : ℕ) (h : X → Bare) (xs : List X) (i : ℕ) → i < length xs
    → Writes written faults j before k page (lined level (map h (take i xs)))
    → ((x : X) → slice_get xs i ≡ Some x → Writes written faults k page l after (new_line level ++ layout (suc level) (h x)))
    → Writes written faults j before l after (lined level (map h (take (i + 1) xs)))
writes_line level h xs i below so_far next = elim (slice_get_cases xs i).1 [
  | inl r ↦ writes_same (one_more (λ t. new_line level ++ layout (suc level) t) h xs i r.0 r.1 (sym r.3)) (writes_then so_far (next r.0 r.2))
  | inr r ↦ absurd (omega (arith, r.0))
]
