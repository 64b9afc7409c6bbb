-- Words of a line, one after another.
use Rattle.std.proofs.Common.{◌≡◌, ◌∙◌, ℕ, List, [], ◌∷◌, ◌++◌, map, refl, sym, ap, append_assoc, append-nil}
use Rattle.std.specs.Prelude.{codes}
use Rattle.std.proofs.lemmas.Grind.{flat_map-append}
use Rattle.edit_rules_spec.specs.declared.reply.EndName.{EndName}
use Rattle.flat_lines_spec.specs.Lines.{spaced}
use Rattle.script_spec.specs.Lines.{path_piece}
use Rattle.script_spec.specs.Pieces.{Named, atom_text, joined, piece_text}
use Rattle.script_spec.specs.Texts.{end_words, ends_text}
use Rattle.script_texts.specs.Parts.{behind, behind_blanks, more_ends}

-- the first word has no blank before it, and each other has
pub spaced-cons : (word : List ℕ) (words : List (List ℕ)) → spaced (word ∷ words) ≡ word ++ behind_blanks words
spaced-cons word [] = sym (append-nil word)
spaced-cons word (next ∷ words) =
    append_assoc word (32 ∷ []) (spaced (next ∷ words)) ∙ ap (λ text. word ++ 32 ∷ text) (spaced-cons next words)

-- a blank and a line are its words behind blanks
pub blank_spaced : (word : List ℕ) (words : List (List ℕ)) → codes " " ++ spaced (word ∷ words) ≡ behind_blanks (word ∷ words)
blank_spaced word words = ap (λ text. 32 ∷ text) (spaced-cons word words)

-- words behind those of the line so far
pub then : (old middle new : List ℕ) (words more : List (List ℕ)) → middle ≡ old ++ behind_blanks words → new ≡ middle ++ behind_blanks more
    → new ≡ old ++ behind_blanks (words ++ more)
then old middle new words more begun added =
    added ∙ ap (λ bytes. bytes ++ behind_blanks more) begun ∙ append_assoc old (behind_blanks words) (behind_blanks more)
    ∙ ap (λ text. old ++ text) (sym (flat_map-append (λ word. 32 ∷ word) words more))

-- the first word of a path has no mark before it
pub joined-cons : (mark : ℕ) (word : List ℕ) (words : List (List ℕ)) → joined mark (word ∷ words) ≡ word ++ behind mark words
joined-cons mark word [] = sym (append-nil word)
joined-cons mark word (next ∷ words) = ap (λ text. word ++ mark ∷ text) (joined-cons mark next words)

names_text : (path : List (List ℕ)) → map atom_text (map Named path) ≡ path
names_text [] = refl
names_text (id ∷ path) = ap (λ ids. id ∷ ids) (names_text path)

pub path_text : (id : List ℕ) (path : List (List ℕ)) → piece_text (path_piece (id ∷ path)) ≡ id ++ behind 47 path
path_text id path = ap (joined 47) (names_text (id ∷ path)) ∙ joined-cons 47 id path

-- there is a first word
abbrev pub IsFilled : List (List ℕ) → Type 0
IsFilled [] = ⊥
IsFilled (word ∷ words) = Unit {0}

pub blank_filled : (words : List (List ℕ)) → IsFilled words → codes " " ++ spaced words ≡ behind_blanks words
blank_filled [] none = absurd none
blank_filled (word ∷ words) some = blank_spaced word words

-- the first end has no `;` before it
pub ends-cons : (end : EndName) (ends : List EndName) → ends_text (end ∷ ends) ≡ behind_blanks (end_words end) ++ more_ends ends
ends-cons end [] = blank_filled (end_words end) tt ∙ sym (append-nil (behind_blanks (end_words end)))
ends-cons end (next ∷ ends) =
    append_assoc (codes " " ++ spaced (end_words end)) (codes ";") (ends_text (next ∷ ends))
    ∙ ap (λ text. text ++ 59 ∷ ends_text (next ∷ ends)) (blank_filled (end_words end) tt)
    ∙ ap (λ text. behind_blanks (end_words end) ++ 59 ∷ text) (ends-cons next ends)

-- a path behind a blank, from its first name and the rest
pub path_pushed : (old middle new id : List ℕ) (path rest : List (List ℕ)) → path ≡ id ∷ rest → middle ≡ old ++ behind_blanks (id ∷ []) → new ≡ middle ++ behind 47 rest
    → new ≡ old ++ behind_blanks (piece_text (path_piece path) ∷ [])
path_pushed old middle new id path rest whole begun added =
    added ∙ ap (λ bytes. bytes ++ behind 47 rest) begun ∙ append_assoc old (32 ∷ (id ++ [])) (behind 47 rest)
    ∙ ap (λ text. old ++ 32 ∷ (text ++ behind 47 rest)) (append-nil id)
    ∙ ap (λ text. old ++ 32 ∷ text) (sym (path_text id rest) ∙ ap (λ names. piece_text (path_piece names)) (sym whole) ∙ sym (append-nil (piece_text (path_piece path))))

-- the counts of a cell, or an instance: a first word, and words behind it
pub after_word : (old middle new word : List ℕ) (words : List (List ℕ)) → middle ≡ old ++ word → new ≡ middle ++ behind_blanks words → new ≡ old ++ spaced (word ∷ words)
after_word old middle new word words begun added =
    added ∙ ap (λ bytes. bytes ++ behind_blanks words) begun ∙ append_assoc old word (behind_blanks words) ∙ ap (λ text. old ++ text) (sym (spaced-cons word words))

-- ends behind the first
pub ends_pushed : (old middle new : List ℕ) (end : EndName) (ends rest : List EndName) → ends ≡ end ∷ rest → middle ≡ old ++ behind_blanks (end_words end) → new ≡ middle ++ more_ends rest
    → new ≡ old ++ ends_text ends
ends_pushed old middle new end ends rest whole begun added =
    added ∙ ap (λ bytes. bytes ++ more_ends rest) begun ∙ append_assoc old (behind_blanks (end_words end)) (more_ends rest)
    ∙ ap (λ text. old ++ text) (sym (ends-cons end rest)) ∙ ap (λ all. old ++ ends_text all) (sym whole)
