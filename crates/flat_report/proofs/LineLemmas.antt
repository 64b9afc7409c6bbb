-- Words of a line, one after another.
use Rattle.std.proofs.Common.{◌≡◌, ℕ, List, [], ◌∷◌, ◌++◌, refl, sym, ap, ◌∙◌, append_assoc, append-nil}
use Rattle.std.proofs.lemmas.Grind.{flat_map-append}
use Rattle.joined_words.specs.Words.{ended}
use Rattle.flat_lines_spec.specs.Lines.{spaced}
use Rattle.flat_report.specs.Parts.{behind_blanks}

-- the first word has no blank before it, and each other has
spaced-cons : (word : List ℕ) (words : List (List ℕ)) → spaced (word ∷ words) ≡ word ++ behind_blanks words
spaced-cons word [] = sym (append-nil word)
spaced-cons word (next ∷ words) =
    append_assoc word (32 ∷ []) (spaced (next ∷ words)) ∙ ap (λ text. word ++ 32 ∷ text) (spaced-cons next words)

-- one word behind a blank
pub one_word : (word : List ℕ) → 32 ∷ word ≡ behind_blanks (word ∷ [])
one_word word = sym (append-nil (32 ∷ word))

-- words behind those of the line so far
pub more_words : (old middle new word : List ℕ) (words more : List (List ℕ)) → middle ≡ old ++ spaced (word ∷ words) → new ≡ middle ++ behind_blanks more
    → new ≡ old ++ spaced (word ∷ (words ++ more))
more_words old middle new word words more begun added =
    added
    ∙ (ap (λ bytes. bytes ++ behind_blanks more) begun
    ∙ (append_assoc old (spaced (word ∷ words)) (behind_blanks more)
    ∙ ap (λ text. old ++ text)
    (ap (λ text. text ++ behind_blanks more) (spaced-cons word words)
    ∙ (append_assoc word (behind_blanks words) (behind_blanks more)
    ∙ (ap (λ text. word ++ text) (sym (flat_map-append (λ w. 32 ∷ w) words more)) ∙ sym (spaced-cons word (words ++ more)))))))

-- words with a blank behind each, and others behind them
pub ended_spaced : (words : List (List ℕ)) (word : List ℕ) (more : List (List ℕ)) → ended 32 words ++ spaced (word ∷ more) ≡ spaced (words ++ word ∷ more)
ended_spaced [] word more = refl
ended_spaced (first ∷ []) word more = ap (λ text. text ++ spaced (word ∷ more)) (append-nil (first ++ 32 ∷ []))
ended_spaced (first ∷ next ∷ words) word more =
    append_assoc (first ++ 32 ∷ []) (ended 32 (next ∷ words)) (spaced (word ∷ more))
    ∙ ap (λ text. (first ++ 32 ∷ []) ++ text) (ended_spaced (next ∷ words) word more)

-- a last word and a line feed behind them
pub in_one_piece : (words : List (List ℕ)) (last : List ℕ) → ended 32 words ++ (last ++ 10 ∷ []) ≡ spaced (words ++ last ∷ []) ++ 10 ∷ []
in_one_piece words last =
    sym (append_assoc (ended 32 words) last (10 ∷ [])) ∙ ap (λ text. text ++ 10 ∷ []) (ended_spaced words last [])

-- the same pieces, each behind the one before or all behind the first
all_behind : (old words last word rest tail : List ℕ) → tail ≡ word ++ rest
    → (((old ++ (words ++ (last ++ 32 ∷ []))) ++ word) ++ rest) ++ 10 ∷ [] ≡ old ++ ((words ++ ((last ++ 32 ∷ []) ++ tail)) ++ 10 ∷ [])
all_behind old words last word rest tail is = rw is (simp append_assoc)

-- words in one piece, one more, others behind blanks, and a line feed
pub in_pieces : (old one two three new last word : List ℕ) (words more : List (List ℕ)) → one ≡ old ++ (ended 32 words ++ (last ++ 32 ∷ [])) → two ≡ one ++ word
    → three ≡ two ++ behind_blanks more → new ≡ three ++ 10 ∷ [] → new ≡ old ++ (spaced (words ++ last ∷ word ∷ more) ++ 10 ∷ [])
in_pieces old one two three new last word words more begun added behind whole =
    whole
    ∙ (ap (λ t. t ++ 10 ∷ []) behind
    ∙ (ap (λ t. (t ++ behind_blanks more) ++ 10 ∷ []) added
    ∙ (ap (λ t. ((t ++ word) ++ behind_blanks more) ++ 10 ∷ []) begun
    ∙ (all_behind old (ended 32 words) last word (behind_blanks more) (spaced (word ∷ more)) (spaced-cons word more)
    ∙ ap (λ t. old ++ (t ++ 10 ∷ [])) (ended_spaced words last (word ∷ more))))))
