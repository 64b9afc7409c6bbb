-- What is told of a run is its summary.
use Rattle.std.proofs.Common.{◌≡◌, ℕ, List, length, ap, ◌∙◌, subst}
use Rattle.std.specs.List.{count_by, sum_by}
use Rattle.edit_tx.specs.Facts.{PinFacts}
use Rattle.db_spec.specs.History.{version_at}
use Rattle.db_spec.specs.declared.event.Event.{Event}
use Rattle.db_core.specs.Story.{Story}
use Rattle.gen_spec.specs.Generated.{generated}
use Rattle.gen_spec.specs.Summary.{IsSummaryOf, dropped_by, is_accepted, summary_text, walked}
use Rattle.gen_spec.specs.declared.summary.Summary.{Summary}
use Rattle.gen_spec.specs.declared.summary.Walked.{Walked}
use Rattle.gen_rounds.specs.Stand.{HasEnded, HasRun}
use Rattle.gen_run.specs.Told.{IsTold}

pub is_told : (n m : ℕ) (story : Story) (events : List Event) (first last : PinFacts) (commits collected many : ℕ) (one other : Walked) → m ≡ n
    → HasRun m story first last → HasEnded m events first.design last.design
    → commits ≡ count_by (λ event. is_accepted event.answer) events → collected ≡ sum_by (λ event. dropped_by event.answer) events → many ≡ length events
    → one ≡ walked first.version first.design → other ≡ walked last.version last.design
    → IsTold n (record { number = n; commits = commits; collected = collected; events = many; first = one; last = other })
is_told n m story events first last commits collected many one other same run_m ended_m commits_are collected_are many_are one_is other_is =
    let run : HasRun n story first last = subst (λ (k : ℕ). HasRun k story first last) same run_m in
    let ended : HasEnded n events first.design last.design = subst (λ (k : ℕ). HasEnded k events first.design last.design) same ended_m in
    let first_walk : one ≡ walked 0 (version_at (generated n) events 0) = one_is ∙ (λ i. walked (run.first_is.version_is i) (ended.first_is i)) in
    let last_walk : other ≡ walked n (version_at (generated n) events n) = other_is ∙ (λ i. walked (run.last_is.version_is i) (ended.last_is i)) in
    record {
      history = events;
      whole = ended.whole;
      told = λ i. record { number = n; commits = commits_are i; collected = collected_are i; events = many_are i; first = first_walk i; last = last_walk i };
    }

-- the text of what is told
pub is_summary : (n : ℕ) (summary : Summary) (text : List ℕ) → IsTold n summary → text ≡ summary_text summary → IsSummaryOf n text
is_summary n summary text told is = record { history = told.history; generated = told.whole; text_is = is ∙ ap (λ (s : Summary). summary_text s) told.told }
