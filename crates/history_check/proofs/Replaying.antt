-- What a replayed event tells of the histories that print a report.
use Rattle.std.proofs.Common.{◌≡◌, ◌∙◌, ℕ, ◌+◌, ◌≤◌, ◌<◌, ◌^◌, List, [], ◌∷◌, ◌++◌, length, ap, sym, subst, arith, append_assoc}
use Rattle.std.specs.Prelude.{codes}
use Rattle.std.proofs.lemmas.List.{append_cancel_left, length-append}
use Rattle.netlist_schema.specs.Design.{Design}
use Rattle.db_spec.specs.History.{Legal}
use Rattle.db_spec.specs.declared.event.Event.{Event}
use Rattle.db_core.specs.Calls.{Adds, event_of}
use Rattle.db_core.specs.Story.{Story}
use Rattle.db_core.proofs.Staying.{still_legal}
use Rattle.script_spec.specs.Report.{Prints, head_design}
use Rattle.script_spec.specs.Texts.{event_text, event_texts, line}
use Rattle.script_spec.specs.declared.script.Step.{Step}
use Rattle.history_check_spec.specs.Heads.{behind_events}
use Rattle.history_check_spec.proofs.Events.{texts_one_more}
use Rattle.history_check_spec.proofs.Meeting.{event_stays}
use Rattle.history_check_spec.proofs.Rests.{begins_history, ends_with, goes_on, next, call_is, admitted, rest_of_all}
use Rattle.report_parts.specs.Parts.{Heads, HeadsNone}
use Rattle.history_check.specs.Follow.{IsBehind, IsCalled, IsRestOf, IsStopped}
use Rattle.history_check_spec.specs.Printed.{PrintsNone, PrintsOnly}
use Rattle.report_parts.specs.declared.heads.Next.{Next}
use Rattle.history_turns.specs.declared.seats.Seat.{Seat}
use Rattle.history_turns.proofs.Turning.{story_is}

-- ---- before the first event

pub begins : (d : Design) (scripts : List (List Step)) (report rest : List ℕ) → report ≡ line (codes "history" ∷ []) ++ rest → IsRestOf (record { opening = d; events = [] }) scripts report rest
begins d scripts report rest e = rest_of_all d scripts report rest e

pub begins_not : (d : Design) (scripts : List (List Step)) (report : List ℕ) → ((rest : List ℕ) → ¬ (report ≡ line (codes "history" ∷ []) ++ rest)) → PrintsNone d scripts report
begins_not d scripts report none history prints = let b = begins_history d scripts report history prints in none b.0 b.1

-- ---- what is printed so far

-- one event more is
behind_here : (d : Design) (seen : List Event) (event : Event) (report rest more : List ℕ) → Legal d (seen ++ event ∷ []) → rest ≡ event_text (head_design d (seen ++ event ∷ [])) (length seen) event ++ more
    → IsBehind (record { opening = d; events = seen }) report rest → IsBehind (record { opening = d; events = seen ++ event ∷ [] }) report more
behind_here d seen event report rest more legal is behind =
    let h = line (codes "history" ∷ []) in
    let texts = event_texts (head_design d seen) 0 seen in
    let one = event_text (head_design d (seen ++ event ∷ [])) (length seen) event in
    behind ∙ ap (λ (z : List ℕ). h ++ (texts ++ z)) is ∙ ap (λ (z : List ℕ). h ++ z) (sym (append_assoc texts one more))
    ∙ ap (λ (z : List ℕ). h ++ (z ++ more)) (sym (texts_one_more d seen event legal))

pub behind_one : (old new : Story) (event : Event) (report rest more : List ℕ) → Legal old.opening old.events → Adds old new event
    → rest ≡ event_text (head_design new.opening new.events) (length old.events) event ++ more → IsBehind old report rest → IsBehind new report more
behind_one old new event report rest more legal adds is behind =
    let story = story_is old new event adds in
    let now = subst (λ (s : Story). Legal s.opening s.events) story (still_legal old new event legal adds) in
    let text = subst (λ (s : Story). rest ≡ event_text (head_design s.opening s.events) (length old.events) event ++ more) story is in
    subst (λ (s : Story). IsBehind s report more) (sym story) (behind_here old.opening old.events event report rest more now text behind)

-- ---- no event is left

module _ (old : Story) (scripts : List (List Step)) (report rest : List ℕ) (few : length scripts ≤ 64) (of : IsRestOf old scripts report rest) where
  small : length scripts < 2 ^ 64
  small = omega (arith, few)

  pub only_these : HeadsNone rest (length old.events) (length scripts) → PrintsOnly old.opening scripts report old.events
  only_these none = ends_with old.opening old.events scripts report rest small of none

  module _ (n : Next) (heads : Heads rest (length old.events) (length scripts) n) where
    -- there was no such call, or no room for it
    pub none_prints : IsStopped old scripts n → PrintsNone old.opening scripts report
    none_prints s history prints =
        let r = s.reached in
        let at = next old.opening old.events scripts report rest small of n.caller n.release heads.more heads.known heads.head heads.release history prints in
        let wanted = call_is old.opening old.events scripts report rest small of n.caller n.release heads.more heads.known heads.head heads.release r.phase r.lines r.said r.leads history prints at in
        let may = admitted old.opening old.events scripts report rest small of n.caller n.release heads.more heads.known heads.head heads.release r.phase r.lines r.said r.leads history prints at in
        s.stuck at.event.call wanted may.room

    module _ (new : Story) (seats : List Seat) (called : IsCalled old new scripts n seats) (legal : Legal old.opening old.events) where
      abbrev event : Event
      event = event_of n.caller called.call called.answer

      -- the text of the event, by the version that is last then
      text_here : event_text (head_design new.opening new.events) (length old.events) event ≡ event_text (head_design old.opening old.events) (length old.events) event
      text_here =
          let now = still_legal old new event legal called.adds in
          let story = story_is old new event called.adds in
          ap (λ (s : Story). event_text (head_design s.opening s.events) (length old.events) event) story
          ∙ event_stays old.opening old.events event [] (length old.events) (subst (λ (s : Story). Legal s.opening s.events) story now)

      -- each history that prints the report goes on with the event
      with_event : (history : List Event) (prints : Prints old.opening scripts report history) → (more : List Event) × (history ≡ (old.events ++ event ∷ []) ++ more)
          × (rest ≡ event_text (head_design new.opening new.events) (length old.events) event ++ (event_texts (head_design old.opening history) (length old.events + 1) more ++ behind_events old.opening history prints.results))
      with_event history prints =
          let r = called.reached in
          let g = goes_on old.opening old.events scripts report rest small of n.caller n.release heads.more heads.known heads.head heads.release r.phase r.lines r.said r.leads called.call called.answer called.wanted called.adds.admits history prints in
          (g.0, g.1, g.2 ∙ ap (λ (z : List ℕ). z ++ (event_texts (head_design old.opening history) (length old.events + 1) g.0 ++ behind_events old.opening history prints.results)) (sym text_here))

      -- the text does not go on with it
      pub other_prints : ((more : List ℕ) → ¬ (rest ≡ event_text (head_design new.opening new.events) (length old.events) event ++ more)) → PrintsNone new.opening scripts report
      other_prints none =
          subst (λ (d : Design). PrintsNone d scripts report) (sym called.adds.opening) (λ history prints. let w = with_event history prints in none (event_texts (head_design old.opening history) (length old.events + 1) w.0 ++ behind_events old.opening history prints.results) w.2)

      -- it does
      pub rest_behind : (more : List ℕ) → rest ≡ event_text (head_design new.opening new.events) (length old.events) event ++ more → IsRestOf new scripts report more
      rest_behind more is =
          let long : length (old.events ++ event ∷ []) ≡ length old.events + 1 = length-append old.events (event ∷ []) in
          subst (λ (s : Story). IsRestOf s scripts report more) (sym (story_is old new event called.adds))
          (λ history prints.
          let w = with_event history prints in
          let behind = behind_events old.opening history prints.results in
          let texts : more ≡ event_texts (head_design old.opening history) (length old.events + 1) w.0 ++ behind =
          append_cancel_left (event_text (head_design new.opening new.events) (length old.events) event) more (event_texts (head_design old.opening history) (length old.events + 1) w.0 ++ behind) (sym is ∙ w.2) in
          (w.0, w.1, texts ∙ ap (λ (k : ℕ). event_texts (head_design old.opening history) k w.0 ++ behind) (sym long)))
