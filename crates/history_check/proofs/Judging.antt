-- What the ends of all scripts tell of the report.
use Rattle.std.proofs.Common.{◌≡◌, ◌∙◌, ℕ, ◌+◌, ◌≤◌, ◌<◌, List, [], ◌∷◌, length, refl, ap, sym, subst}
use Rattle.std.specs.List.{All, AllByRecursion}
use Rattle.std.proofs.lemmas.List.Elements.{All-from_recursion}
use Rattle.db_spec.specs.History.{Legal}
use Rattle.db_spec.specs.declared.event.Event.{Event}
use Rattle.db_core.specs.Story.{Story}
use Rattle.script_spec.specs.Laws.{OneReport}
use Rattle.script_spec.specs.Report.{HasFilled, Prints, Sessions, SessionResult, head_design}
use Rattle.script_spec.specs.declared.script.Step.{Step}
use Rattle.script_run_spec.specs.Written.{written_report}
use Rattle.script_run_spec.proofs.Texts.{report_is, transcripts}
use Rattle.history_check.proofs.Lengths.{printed_at}
use Rattle.history_check.specs.Follow.{AllEnd, SomeNever}
use Rattle.history_check_spec.specs.Printed.{PrintsNone, PrintsOnly, PrintsSome}

-- what all came to
record AllCame (story : Story) (caller : ℕ) (scripts : List (List Step)) (texts : List (List ℕ)) : Type 0 where
  results : List SessionResult
  fit : Sessions story.opening story.events caller scripts results
  filled : AllByRecursion (λ came. HasFilled story.events came.ending) results
  texts_are : texts ≡ transcripts story.opening story.events results

all_came : (story : Story) (caller : ℕ) (scripts : List (List Step)) (texts : List (List ℕ)) → AllEnd story caller scripts texts → AllCame story caller scripts texts
all_came story caller [] [] all = record { results = []; fit = tt; filled = tt; texts_are = refl }
all_came story caller [] (text ∷ texts) all = absurd all
all_came story caller (steps ∷ scripts) [] all = absurd all
all_came story caller (steps ∷ scripts) (text ∷ texts) all =
    let one = all.0 in
    let rest = all_came story (caller + 1) scripts texts all.1 in
    record {
      results = one.came ∷ rest.results;
      fit = (one.session, rest.fit);
      filled = (one.filled, rest.filled);
      texts_are = cc (one.text_is, rest.texts_are);
    }

-- the report of the history prints it
pub written_prints : (story : Story) (scripts : List (List Step)) (texts : List (List ℕ)) → Legal story.opening story.events → All (λ (event : Event). event.caller < length scripts) story.events
    → AllEnd story 0 scripts texts → Prints story.opening scripts (written_report (head_design story.opening story.events) story.events texts) story.events
written_prints story scripts texts legal callers all =
    let came = all_came story 0 scripts texts all in
    record {
      legal = legal;
      callers = callers;
      results = came.results;
      fit = came.fit;
      filled = All-from_recursion (λ (c : SessionResult). HasFilled story.events c.ending) came.results came.filled;
      printed = ap (written_report (head_design story.opening story.events) story.events) came.texts_are ∙ sym (report_is story.opening story.events came.results);
    }

pub prints_some : (story : Story) (scripts : List (List Step)) (texts : List (List ℕ)) (report : List ℕ) → Legal story.opening story.events → All (λ (event : Event). event.caller < length scripts) story.events
    → AllEnd story 0 scripts texts → PrintsOnly story.opening scripts report story.events → report ≡ written_report (head_design story.opening story.events) story.events texts → PrintsSome story.opening scripts report
prints_some story scripts texts report legal callers all only is = record {
  history = story.events;
  prints = subst (λ (z : List ℕ). Prints story.opening scripts z story.events) (sym is) (written_prints story scripts texts legal callers all);
  only = only;
}

pub prints_none : OneReport → (story : Story) (scripts : List (List Step)) (texts : List (List ℕ)) (report : List ℕ) → Legal story.opening story.events → All (λ (event : Event). event.caller < length scripts) story.events
    → AllEnd story 0 scripts texts → PrintsOnly story.opening scripts report story.events → ¬ (report ≡ written_report (head_design story.opening story.events) story.events texts) → PrintsNone story.opening scripts report
prints_none one story scripts texts report legal callers all only other history prints =
    let here = subst (λ (z : List Event). Prints story.opening scripts report z) (only history prints) prints in
    other (one story.opening scripts story.events report (written_report (head_design story.opening story.events) story.events texts) here (written_prints story scripts texts legal callers all))

-- ---- a script that does not end so

pub never_prints : (story : Story) (scripts : List (List Step)) (report : List ℕ) (most : ℕ) → length report ≤ most → SomeNever story scripts most → PrintsOnly story.opening scripts report story.events → PrintsNone story.opening scripts report
never_prints story scripts report most few never only history prints =
    let here = subst (λ (z : List Event). Prints story.opening scripts report z) (only history prints) prints in
    let f = printed_at story.opening story.events scripts report here most few never.caller never.known in
    never.never f.0.said f.0.ending f.1 f.2 f.3
