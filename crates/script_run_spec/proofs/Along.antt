-- From line to line.
use Rattle.std.proofs.Common.{◌≡◌, ◌∙◌, ℕ, List, [], ◌∷◌, ◌++◌, inr, refl, ap, sym, subst, append_assoc}
use Rattle.netlist_schema.specs.Design.{Design}
use Rattle.db_spec.specs.History.{Legal, version_at}
use Rattle.db_spec.specs.declared.event.Event.{Event}
use Rattle.script_spec.specs.Report.{transcript, word_text, head_design}
use Rattle.script_spec.specs.Session.{Ending, Exchange, Held, Nothing, Runs, Word, exchanges}
use Rattle.script_spec.specs.declared.script.Step.{Step}
use Rattle.script_run_spec.specs.Along.{Resumes}
use Rattle.script_run_spec.specs.Calls.{Makes}
use Rattle.script_run_spec.specs.Laws.{ComesFurther, ComesToBegin}
use Rattle.script_run_spec.proofs.Pins.{holds_nothing, own_after}
use Rattle.script_run_spec.proofs.Places.{placed_behind}

-- what words say, in a row
pub transcript-append : (d : Design) (history : List Event) (said words : List Word) → transcript d history (said ++ words) ≡ transcript d history said ++ transcript d history words
transcript-append d history [] words = refl
transcript-append d history (word ∷ said) words =
    ap (λ (text : List ℕ). word_text (head_design d history) (version_at d history) word ++ text) (transcript-append d history said words)
    ∙ sym (append_assoc (word_text (head_design d history) (version_at d history) word) (transcript d history said) (transcript d history words))

-- what comes behind the new history comes behind the old one
pub behind_both : (d : Design) (caller : ℕ) (old new : List Event) (done : List Exchange) (more : List Event) → (m : Makes d caller old new done) → new ++ more ≡ old ++ (m.more ++ more)
behind_both d caller old new done more m = ap (λ (xs : List Event). xs ++ more) m.on ∙ append_assoc old m.more more

pub comes_to_begin : ComesToBegin
comes_to_begin d caller steps seen legal none placed = record {
  legal = legal;
  said = [];
  resumes = λ more rest words ending runs. subst (λ (own : List Exchange). Runs (version_at d (seen ++ more)) Nothing steps (own ++ rest) words ending) (sym none) runs;
  written = λ more _. refl;
  holds = holds_nothing d caller seen legal none;
  placed = placed;
}

-- a session of what is left, behind the caller's calls up to the new history
pub resumed : (d : Design) (caller : ℕ) (steps : List Step) (old new : List Event) (done : List Exchange) (m : Makes d caller old new done) (said : List Word) (held : Held) (left : List Step)
    (more : List Event) (rest : List Exchange) (words : List Word) (ending : Ending)
    → Resumes d old caller steps said held left → Runs (version_at d (new ++ more)) held left (done ++ rest) words ending
    → Runs (version_at d (new ++ more)) Nothing steps (exchanges caller new ++ rest) (said ++ words) ending
resumed d caller steps old new done m said held left more rest words ending resumes runs =
    let same = behind_both d caller old new done more m in
    let there = resumes (m.more ++ more) (done ++ rest) words ending (subst (λ (xs : List Event). Runs (version_at d xs) held left (done ++ rest) words ending) same runs) in
    let here = subst (λ (xs : List Event). Runs (version_at d xs) Nothing steps (exchanges caller old ++ (done ++ rest)) (said ++ words) ending) (sym same) there in
    let calls : exchanges caller old ++ (done ++ rest) ≡ exchanges caller new ++ rest =
    sym (append_assoc (exchanges caller old) done rest) ∙ ap (λ (xs : List Exchange). xs ++ rest) (sym (own_after d caller old new done m)) in
    subst (λ (xs : List Exchange). Runs (version_at d (new ++ more)) Nothing steps xs (said ++ words) ending) calls here

-- the text before stays the transcript
pub written_on : (d : Design) (caller : ℕ) (old new : List Event) (done : List Exchange) (m : Makes d caller old new done) (text : List ℕ) (said : List Word)
    → ((more : List Event) → Legal d (old ++ more) → text ≡ transcript d (old ++ more) said) → (more : List Event) → Legal d (new ++ more) → text ≡ transcript d (new ++ more) said
written_on d caller old new done m text said written more legal =
    let same = behind_both d caller old new done more m in
    written (m.more ++ more) (subst (λ (xs : List Event). Legal d xs) same legal) ∙ ap (λ (xs : List Event). transcript d xs said) (sym same)

-- and what the line says stands behind it
pub written_more : (d : Design) (caller : ℕ) (old new : List Event) (done : List Exchange) (m : Makes d caller old new done) (before text : List ℕ) (said words : List Word)
    → ((more : List Event) → Legal d (old ++ more) → before ≡ transcript d (old ++ more) said)
    → ((more : List Event) → Legal d (new ++ more) → text ≡ before ++ transcript d (new ++ more) words)
    → (more : List Event) → Legal d (new ++ more) → text ≡ transcript d (new ++ more) (said ++ words)
written_more d caller old new done m before text said words written writes more legal =
    writes more legal ∙ ap (λ (front : List ℕ). front ++ transcript d (new ++ more) words) (written_on d caller old new done m before said written more legal)
    ∙ sym (transcript-append d (new ++ more) said words)

pub comes_further : ComesFurther
comes_further d caller steps old new before text held next step left h g = record {
  legal = g.makes.legal;
  said = h.said ++ g.words;
  resumes = λ more rest words ending runs.
      subst (λ (said : List Word). Runs (version_at d (new ++ more)) Nothing steps (exchanges caller new ++ rest) said ending) (sym (append_assoc h.said g.words words))
      (resumed d caller steps old new g.done g.makes h.said held (step ∷ left) more rest (g.words ++ words) ending h.resumes
      (inr (next, g.done, rest, g.words, words, refl, refl, g.goes more, runs)));
  written = written_more d caller old new g.done g.makes before text h.said g.words h.written g.writes;
  holds = g.holds;
  placed = placed_behind (version_at d (new ++ [])) held step g.done g.words next left (g.goes []) h.placed;
}
