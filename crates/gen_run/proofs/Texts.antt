-- The pieces of a summary's text are its lines.
use Rattle.std.proofs.Common.{◌≡◌, ℕ, List, [], ◌∷◌, ◌++◌, ap, sym, ◌∙◌, append_assoc}
use Rattle.std.specs.Prelude.{codes}
use Rattle.gen_spec.specs.Summary.{line, summary_text, told, walk_line}
use Rattle.gen_spec.specs.declared.summary.Summary.{Summary}
use Rattle.gen_spec.specs.declared.summary.Walked.{Walked}
use Rattle.gen_run.specs.Pieces.{summary_pieces, walk_pieces}

to_right : (a b c d e f : List ℕ) → ((((a ++ b) ++ c) ++ d) ++ e) ++ f ≡ a ++ (b ++ (c ++ (d ++ (e ++ f))))
to_right a b c d e f =
    append_assoc (((a ++ b) ++ c) ++ d) e f
    ∙ (append_assoc ((a ++ b) ++ c) d (e ++ f)
    ∙ (append_assoc (a ++ b) c (d ++ (e ++ f))
    ∙ append_assoc a b (c ++ (d ++ (e ++ f)))))

walk_is : (w : Walked) → walk_pieces w ≡ walk_line w
walk_is w = sym (to_right (told (codes "version") w.version) (told (codes " instances") w.counts.instances) (told (codes " nets") w.counts.nets) (told (codes " pins") w.counts.pins) (told (codes " properties") w.counts.properties) (10 ∷ []))

four_lines : (a b c d first last : List ℕ) → ((((line a ++ line b) ++ line c) ++ line d) ++ first) ++ last ≡ a ++ (10 ∷ (b ++ (10 ∷ (c ++ (10 ∷ (d ++ (10 ∷ (first ++ last))))))))
four_lines a b c d first last =
    to_right (line a) (line b) (line c) (line d) first last
    ∙ (append_assoc a (10 ∷ []) (line b ++ (line c ++ (line d ++ (first ++ last))))
    ∙ ap (λ (rest : List ℕ). a ++ (10 ∷ rest)) (append_assoc b (10 ∷ []) (line c ++ (line d ++ (first ++ last)))
    ∙ ap (λ (rest : List ℕ). b ++ (10 ∷ rest)) (append_assoc c (10 ∷ []) (line d ++ (first ++ last))
    ∙ ap (λ (rest : List ℕ). c ++ (10 ∷ rest)) (append_assoc d (10 ∷ []) (first ++ last)))))

whole : (s : Summary) (first last : List ℕ) → summary_pieces s first last
    ≡ ((((line (told (codes "gen") s.number) ++ line (told (codes "commits") s.commits)) ++ line (told (codes "collected") s.collected)) ++ line (told (codes "events") s.events)) ++ first) ++ last
whole s first last = sym (four_lines (told (codes "gen") s.number) (told (codes "commits") s.commits) (told (codes "collected") s.collected) (told (codes "events") s.events) first last)

pub text_is : (s : Summary) (first last text : List ℕ) → first ≡ walk_pieces s.first → last ≡ walk_pieces s.last → text ≡ summary_pieces s first last → text ≡ summary_text s
text_is s first last text one other is =
    is
    ∙ (ap (λ (l : List ℕ). summary_pieces s l last) (one ∙ walk_is s.first)
    ∙ (ap (λ (l : List ℕ). summary_pieces s (walk_line s.first) l) (other ∙ walk_is s.last)
    ∙ whole s (walk_line s.first) (walk_line s.last)))
