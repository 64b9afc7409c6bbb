-- The sessions of scripts that ended at different times, as sessions of the whole history.
use Rattle.std.proofs.Common.{◌≡◌, ◌∙◌, ℕ, ◌<◌, ◌≤◌, ◌+◌, Bool, true, false, ◌||◌, List, [], ◌∷◌, ◌++◌, length, map, ◌⊎◌, inl, inr, refl, ap, sym, subst, arith}
use Rattle.std.specs.Prelude.{◌↔◌, IsTrue, MatchBool}
use Rattle.std.specs.List.{All, AllByRecursion}
use Rattle.std.proofs.Math.Nat.{eq-or-lt_of_le, lt_of_not-le}
use Rattle.std.proofs.lemmas.List.Elements.{All-from_recursion}
use Rattle.netlist_schema.specs.Design.{Design}
use Rattle.db_spec.specs.Answers.{most_events, places}
use Rattle.db_spec.specs.History.{Legal, state_from, state_after}
use Rattle.db_spec.specs.State.{opening}
use Rattle.db_spec.specs.declared.event.Event.{Event}
use Rattle.db_spec.proofs.Histories.{state_from-append, legal-left, legal-right}
use Rattle.db_spec.proofs.Kept.{events_after}
use Rattle.db_spec.proofs.Sound.{kept_up_after, never_falls}
use Rattle.script_spec.specs.Headline.{HasNoPlaces, HoldsNone, IsFull, IsWhole, SomeFull}
use Rattle.script_spec.specs.Laws.{SessionStays, TranscriptStays}
use Rattle.script_spec.specs.Report.{HasFilled, Sessions, SessionResult, head_design, transcript}
use Rattle.script_spec.specs.Session.{Ending, Whole, Full, Session}
use Rattle.script_spec.specs.declared.script.Step.{Step}
use Rattle.script_run_spec.specs.Ended.{Ended, HasEnded, HaveEnded, met_full}
use Rattle.script_run_spec.specs.Written.{written_report}
use Rattle.script_run_spec.specs.JointLaws.{EndedIsPrinted}
use Rattle.script_run_spec.proofs.JointPins.{callers_pins, holds_none_later, no_pins}
use Rattle.script_run_spec.proofs.Texts.{report_is, transcripts}

-- the script of a caller has ended
abbrev SomeEnded : Design → List Event → ℕ → Type 0
SomeEnded d history caller = (steps : List Step) × (ended : Ended) × HasEnded d history caller steps ended

-- that of each caller has
ended_at : (d : Design) (history : List Event) (first : ℕ) (scripts : List (List Step)) (ends : List Ended) → HaveEnded d history first scripts ends
    → (caller : ℕ) → first ≤ caller → caller < first + length scripts → SomeEnded d history caller
ended_at d history first [] [] all caller low high = absurd (omega (arith, low, high))
ended_at d history first [] (ended ∷ ends) all caller low high = absurd all
ended_at d history first (steps ∷ scripts) [] all caller low high = absurd all
ended_at d history first (steps ∷ scripts) (ended ∷ ends) all caller low high = elim (first_or_later first caller low) [
  | inl is ↦ subst (SomeEnded d history) is (steps, ended, all.0)
  | inr later ↦ ended_at d history (first + 1) scripts ends all.1 caller later (omega (arith, high))
]
  where
    first_or_later : (m n : ℕ) → m ≤ n → (m ≡ n) ⊎ (m + 1 ≤ n)
    first_or_later m n le = elim (eq-or-lt_of_le le) [
      | inl is ↦ inl is
      | inr less ↦ inr (omega (arith, less))
    ]

-- at the end of the history no caller holds a pin
released : (d : Design) (history : List Event) (caller : ℕ) → SomeEnded d history caller → HoldsNone d history caller
released d history caller some =
    let one = some.2 in
    subst (λ (events : List Event). HoldsNone d events caller) (sym one.parts) (holds_none_later d one.seen one.later caller one.ran.released one.quiet)

-- so its places are its events
all_released : (d : Design) (history : List Event) (count : ℕ) → All (λ (event : Event). event.caller < count) history
    → ((caller : ℕ) → caller < count → HoldsNone d history caller) → places (state_after d history) ≡ length history
all_released d history count callers none =
    let pins : length (state_after d history).pins ≡ 0 = no_pins (state_after d history).pins (λ number caller v live. none caller (callers_pins d history count number caller v callers live) number v live) in
    let events : (state_after d history).events ≡ length history = events_after d history in
    omega (arith, pins, events)

-- what was wanting at the end of a session is wanting at the end of the history
filled : (d : Design) (seen later : List Event) (ending : Ending) → Legal d (seen ++ later) → places (state_after d (seen ++ later)) ≡ length (seen ++ later)
    → HasNoPlaces d seen ending → HasFilled (seen ++ later) ending
filled d seen later Whole legal all none = tt
filled d seen later (Full wanted) legal all none =
    let s = state_after d seen in
    let more : places s ≤ places (state_from s later) = never_falls s later (kept_up_after d seen (legal-left (opening d) seen later legal)) (legal-right (opening d) seen later legal) in
    let same : places (state_from s later) ≡ places (state_after d (seen ++ later)) = ap places (sym (state_from-append (opening d) seen later)) in
    wanting (places s) (length (seen ++ later)) wanted none (omega (arith, more, same, all))
  where
    wanting : (before now wanted : ℕ) → (before + wanted ≤ most_events → ⊥) → before ≤ now → most_events < now + wanted
    wanting before now wanted none le = let less : most_events < before + wanted = lt_of_not-le none in omega (arith, less, le)

-- what one script came to in the whole history
record Came (d : Design) (history : List Event) (caller : ℕ) (steps : List Step) (ended : Ended) : Type 0 where
  came : SessionResult
  session : Session d history caller steps came.said came.ending
  text : ended.text ≡ transcript d history came.said
  full : IsTrue ended.log_full ↔ IsFull came.ending
  places_wanting : HasFilled history came.ending

came_to : SessionStays → TranscriptStays → (d : Design) (history : List Event) (caller : ℕ) (steps : List Step) (ended : Ended) → Legal d history
    → places (state_after d history) ≡ length history → HasEnded d history caller steps ended → Came d history caller steps ended
came_to stays shown d history caller steps ended legal all has =
    let r = has.ran in
    let legal_parts : Legal d (has.seen ++ has.later) = subst (λ (events : List Event). Legal d events) has.parts legal in
    let all_parts = subst (λ (events : List Event). places (state_after d events) ≡ length events) has.parts all in
    subst (λ (events : List Event). Came d events caller steps ended) (sym has.parts) (record {
      came = record { said = r.said; ending = r.ending };
      session = stays d has.seen has.later caller steps r.said r.ending legal_parts has.quiet r.session;
      text = r.transcribed ∙ sym (shown d has.seen has.later caller steps r.said r.ending legal_parts r.session);
      full = r.full;
      places_wanting = filled d has.seen has.later r.ending legal_parts all_parts r.no_places;
    })

abbrev AllWhole : List SessionResult → Type 0
AllWhole = AllByRecursion (λ came. IsWhole came.ending)

-- what all came to
record AllCame (d : Design) (history : List Event) (caller : ℕ) (scripts : List (List Step)) (ends : List Ended) : Type 0 where
  results : List SessionResult
  fit : Sessions d history caller scripts results
  texts : map (λ (ended : Ended). ended.text) ends ≡ transcripts d history results
  wanting : AllByRecursion (λ came. HasFilled history came.ending) results
  endings : MatchBool (met_full ends) (SomeFull results) (AllWhole results)

one_more_ending : (flag rest : Bool) (came : SessionResult) (results : List SessionResult) → IsTrue flag ↔ IsFull came.ending → MatchBool rest (SomeFull results) (AllWhole results)
    → MatchBool (flag || rest) (SomeFull (came ∷ results)) (AllWhole (came ∷ results))
one_more_ending true rest came results full h = inl (full.0 refl)
one_more_ending false true came results full h = inr h
one_more_ending false false came results full h = (whole came.ending full.1, h)
  where
    whole : (ending : Ending) → (IsFull ending → IsTrue false) → IsWhole ending
    whole Whole none = refl
    whole (Full wanted) none = let wrong = none tt in absurd (cc wrong)

all_came : SessionStays → TranscriptStays → (d : Design) (history : List Event) (caller : ℕ) (scripts : List (List Step)) (ends : List Ended) → Legal d history
    → places (state_after d history) ≡ length history → HaveEnded d history caller scripts ends → AllCame d history caller scripts ends
all_came stays shown d history caller [] [] legal all has = record { results = []; fit = tt; texts = refl; wanting = tt; endings = tt }
all_came stays shown d history caller [] (ended ∷ ends) legal all has = absurd has
all_came stays shown d history caller (steps ∷ scripts) [] legal all has = absurd has
all_came stays shown d history caller (steps ∷ scripts) (ended ∷ ends) legal all has =
    let one = came_to stays shown d history caller steps ended legal all has.0 in
    let rest = all_came stays shown d history (caller + 1) scripts ends legal all has.1 in
    record {
      results = one.came ∷ rest.results;
      fit = (one.session, rest.fit);
      texts = cc (one.text, rest.texts);
      wanting = (one.places_wanting, rest.wanting);
      endings = one_more_ending ended.log_full (met_full ends) one.came rest.results one.full rest.endings;
    }

whole_or_full : (flag : Bool) (results : List SessionResult) → MatchBool flag (SomeFull results) (AllWhole results) → MatchBool flag (SomeFull results) (All (λ (came : SessionResult). IsWhole came.ending) results)
whole_or_full true results h = h
whole_or_full false results h = All-from_recursion (λ (came : SessionResult). IsWhole came.ending) results h

pub printed : SessionStays → TranscriptStays → EndedIsPrinted
printed stays shown d scripts history ends legal callers has =
    let all = all_released d history (length scripts) callers (λ caller less. released d history caller (ended_at d history 0 scripts ends has caller (omega arith) (omega (arith, less)))) in
    let came = all_came stays shown d history 0 scripts ends legal all has in
    record {
      prints = record {
        legal = legal;
        callers = callers;
        results = came.results;
        fit = came.fit;
        filled = All-from_recursion (λ (came : SessionResult). HasFilled history came.ending) came.results came.wanting;
        printed = ap (written_report (head_design d history) history) came.texts ∙ sym (report_is d history came.results);
      };
      endings = whole_or_full (met_full ends) came.results came.endings;
    }
