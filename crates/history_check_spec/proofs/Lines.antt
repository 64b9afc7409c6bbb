-- A line of a session, and what follows it.
use Rattle.std.proofs.Common.{◌≡◌, ◌∙◌, ℕ, List, [], ◌∷◌, ◌++◌, inl, inr, refl, ap, sym, subst, append-nil}
use Rattle.std.proofs.lemmas.List.{append_cancel_left}
use Rattle.netlist_schema.specs.Design.{Design}
use Rattle.script_spec.specs.Session.{Does, Ending, Exchange, Full, Goes, Held, LogFull, On, Outcome, Refused, Runs, Stop, Word}
use Rattle.script_spec.specs.declared.script.Step.{Step}

-- what follows a line
abbrev pub Follows : (ℕ → Design) → List Step → Outcome → List Exchange → List Word → Ending → Type 0
Follows versions lines (On held) others more ending = Runs versions held lines others more ending
Follows versions lines (Stop places) others more ending = (others ≡ []) × (more ≡ []) × (ending ≡ Full places)

-- a session that begins with this line
pub record Line (versions : ℕ → Design) (held : Held) (step : Step) (lines : List Step) (done : List Exchange) (said : List Word) (ending : Ending) : Type 0 where
  pub first : List Exchange
  pub others : List Exchange
  pub words : List Word
  pub more : List Word
  pub outcome : Outcome
  pub calls : done ≡ first ++ others
  pub says : said ≡ words ++ more
  pub goes : Goes versions held step first words outcome
  pub follows : Follows versions lines outcome others more ending

pub to_line : (versions : ℕ → Design) (held : Held) (step : Step) (lines : List Step) (done : List Exchange) (said : List Word) (ending : Ending)
    → Runs versions held (step ∷ lines) done said ending → Line versions held step lines done said ending
to_line versions held step lines done said ending (inl x) = record {
  first = done;
  others = [];
  words = said;
  more = [];
  outcome = Stop x.0;
  calls = sym (append-nil done);
  says = sym (append-nil said);
  goes = x.1;
  follows = (refl, refl, x.2);
}
to_line versions held step lines done said ending (inr x) = record {
  first = x.1;
  others = x.2;
  words = x.3;
  more = x.4;
  outcome = On x.0;
  calls = x.5;
  says = x.6;
  goes = x.7;
  follows = x.8;
}

pub from_line : (versions : ℕ → Design) (held : Held) (step : Step) (lines : List Step) (first others : List Exchange) (words more : List Word) (outcome : Outcome) (ending : Ending)
    → Goes versions held step first words outcome → Follows versions lines outcome others more ending → Runs versions held (step ∷ lines) (first ++ others) (words ++ more) ending
from_line versions held step lines first others words more (On next) ending goes follows = inr (next, first, others, words, more, refl, refl, goes, follows)
from_line versions held step lines first others words more (Stop places) ending goes follows =
    let calls : first ≡ first ++ others = sym (append-nil first) ∙ ap (λ (z : List Exchange). first ++ z) (sym follows.0) in
    let says : words ≡ words ++ more = sym (append-nil words) ∙ ap (λ (z : List Word). words ++ z) (sym follows.1) in
    inl (places, subst (λ (z : List Word). Goes versions held step (first ++ others) z (Stop places)) says (subst (λ (z : List Exchange). Goes versions held step z words (Stop places)) calls goes), follows.2)

-- what a refused call leaves
pub refused_is : (versions : ℕ → Design) (lines : List Step) (left : List Exchange) (places : ℕ) (first others : List Exchange) (words more : List Word) (outcome : Outcome) (ending : Ending)
    → Refused left places first words outcome → Follows versions lines outcome others more ending → (first ++ others ≡ left) × (words ++ more ≡ LogFull ∷ []) × (ending ≡ Full places)
refused_is versions lines left places first others words more outcome ending x follows =
    let then : (others ≡ []) × (more ≡ []) × (ending ≡ Full places) = subst (λ (o : Outcome). Follows versions lines o others more ending) x.2 follows in (
      ap (λ (z : List Exchange). z ++ others) x.0 ∙ ap (λ (z : List Exchange). left ++ z) then.0 ∙ append-nil left,
      ap (λ (z : List Word). z ++ more) x.1 ∙ ap (λ (z : List Word). LogFull ∷ z) then.1,
      then.2,
    )

-- what follows a line that does these exchanges
pub does_then : (versions : ℕ → Design) (lines : List Step) (exchanges : List Exchange) (said : List Word) (held : Held) (first others rest : List Exchange) (words more all : List Word) (outcome : Outcome)
    (ending : Ending) → Does exchanges said held first words outcome → exchanges ++ rest ≡ first ++ others → all ≡ words ++ more → Follows versions lines outcome others more ending
    → (after : List Word) × (all ≡ said ++ after) × Runs versions held lines rest after ending
does_then versions lines exchanges said held first others rest words more all outcome ending x calls says follows =
    let then : Runs versions held lines others more ending = subst (λ (o : Outcome). Follows versions lines o others more ending) x.2 follows in
    let same : rest ≡ others = append_cancel_left exchanges rest others (calls ∙ ap (λ (z : List Exchange). z ++ others) x.0) in
    (more, says ∙ ap (λ (z : List Word). z ++ more) x.1, subst (λ (z : List Exchange). Runs versions held lines z more ending) (sym same) then)
