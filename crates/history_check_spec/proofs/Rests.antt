-- What a report goes on with behind some events that were made again.
use Rattle.std.proofs.Common.{◌≡◌, ◌∙◌, ℕ, ◌+◌, ◌<◌, ◌^◌, Bool, List, [], ◌∷◌, ◌++◌, length, refl, ap, sym, subst, arith, append_assoc, append-nil}
use Rattle.std.specs.Prelude.{Some, codes}
use Rattle.std.specs.List.{All}
use Rattle.std.proofs.lemmas.List.{append_cancel_left, length-append}
use Rattle.netlist_schema.specs.Design.{Design}
use Rattle.db_spec.specs.Answers.{Admits, Answers}
use Rattle.db_spec.specs.History.{Legal, state_after, version_at}
use Rattle.db_spec.specs.State.{opening}
use Rattle.db_spec.specs.declared.event.Answer.{Answer}
use Rattle.db_spec.specs.declared.event.Call.{Call}
use Rattle.db_spec.specs.declared.event.Event.{Event}
use Rattle.db_spec.proofs.Histories.{legal-left}
use Rattle.db_spec.proofs.Promised.{one_answer}
use Rattle.script_spec.specs.Report.{Prints, head_design}
use Rattle.script_spec.specs.Session.{Exchange, Nothing, Runs, Told, Word, exchanges}
use Rattle.script_spec.specs.Texts.{event_text, event_texts, line}
use Rattle.script_spec.specs.declared.script.Step.{Step}
use Rattle.history_check_spec.specs.Heads.{begins_with_r, behind_events, head_text}
use Rattle.history_check_spec.specs.Left.{Between, Leads, Phase, is_release, next_call}
use Rattle.history_check_spec.proofs.Advancing.{advance}
use Rattle.history_check_spec.proofs.Heads.{begins_late, behind_caller, event_head, no_head, release_told, report_parts, same_heads}
use Rattle.history_check_spec.proofs.Meeting.{event_stays, middle_admits, middle_holds, own_middle, script_of, session_of}
use Rattle.history_check_spec.proofs.One.{not_long, same_event, same_some}

-- each history that prints the report goes on from these events, and the rest of the text is what it prints of that
abbrev pub RestOf : Design → List Event → List (List Step) → List ℕ → List ℕ → Type 0
RestOf d seen scripts report rest = (history : List Event) (prints : Prints d scripts report history)
    → (more : List Event) × (history ≡ seen ++ more) × (rest ≡ event_texts (head_design d history) (length seen) more ++ behind_events d history prints.results)

-- at the beginning
pub rest_of_all : (d : Design) (scripts : List (List Step)) (report rest : List ℕ) → report ≡ line (codes "history" ∷ []) ++ rest → RestOf d [] scripts report rest
rest_of_all d scripts report rest e history prints =
    let parts = sym e ∙ prints.printed ∙ report_parts d history prints.results in
    (history, refl, append_cancel_left (line (codes "history" ∷ [])) rest (event_texts (head_design d history) 0 history ++ behind_events d history prints.results) parts)

pub begins_history : (d : Design) (scripts : List (List Step)) (report : List ℕ) (history : List Event) → Prints d scripts report history
    → (rest : List ℕ) × (report ≡ line (codes "history" ∷ []) ++ rest)
begins_history d scripts report history prints = (_, prints.printed ∙ report_parts d history prints.results)

module _ (d : Design) (seen : List Event) (scripts : List (List Step)) (report rest : List ℕ) (small : length scripts < 2 ^ 64) (of : RestOf d seen scripts report rest) where
  few : (history : List Event) → Prints d scripts report history → (more : List Event) → history ≡ seen ++ more → length seen + length more < 2 ^ 64
  few history prints more is =
      let short = not_long d history prints.legal in
      let parts : length history ≡ length seen + length more = ap length is ∙ length-append seen more in
      omega (arith, short, parts)

  -- the rest of the text where an event is left
  cut : (history : List Event) (prints : Prints d scripts report history) (e : Event) (more : List Event)
      → rest ≡ event_texts (head_design d history) (length seen) (e ∷ more) ++ behind_events d history prints.results
      → rest ≡ event_text (head_design d history) (length seen) e ++ (event_texts (head_design d history) (length seen + 1) more ++ behind_events d history prints.results)
  cut history prints e more is =
      is ∙ append_assoc (event_text (head_design d history) (length seen) e) (event_texts (head_design d history) (length seen + 1) more) (behind_events d history prints.results)

  caller_known : (history : List Event) → Prints d scripts report history → (e : Event) (more : List Event) → history ≡ seen ++ e ∷ more → e.caller < length scripts
  caller_known history prints e more is =
      middle_holds (λ (x : Event). x.caller < length scripts) seen e more (subst (λ (z : List Event). All (λ (x : Event). x.caller < length scripts) z) is prints.callers)

  -- ---- no event is left

  -- where the text goes on with no event of the callers, no event is left
  pub ends_with : ((caller : ℕ) (more : List ℕ) → caller < length scripts → ¬ (rest ≡ head_text (length seen) caller more)) → (history : List Event) → Prints d scripts report history → history ≡ seen
  ends_with none history prints = let goes = of history prints in by goes.0 goes.1 goes.2
    where
      by : (more : List Event) → history ≡ seen ++ more → rest ≡ event_texts (head_design d history) (length seen) more ++ behind_events d history prints.results → history ≡ seen
      by [] is e = is ∙ append-nil seen
      by (x ∷ more) is e =
          absurd (none x.caller _ (caller_known history prints x more is) (cut history prints x more e ∙ event_head (head_design d history) (length seen) x _))

  -- ---- an event is left

  -- the text goes on with the line of an event of this caller, which is a release or not
  module _ (caller : ℕ) (r : Bool) (behind : List ℕ) (known : caller < length scripts) (head : rest ≡ head_text (length seen) caller behind) (same_kind : r ≡ begins_with_r behind) where
    -- the next event of a history that prints the report
    pub record Next (history : List Event) (prints : Prints d scripts report history) : Type 0 where
      pub event : Event
      pub more : List Event
      pub is : history ≡ seen ++ event ∷ more
      pub caller_is : event.caller ≡ caller
      pub release : is_release event.call ≡ r
      pub texts : rest ≡ event_text (head_design d history) (length seen) event ++ (event_texts (head_design d history) (length seen + 1) more ++ behind_events d history prints.results)

    pub next : (history : List Event) (prints : Prints d scripts report history) → Next history prints
    next history prints = let goes = of history prints in by goes.0 goes.1 goes.2
      where
        by : (more : List Event) → history ≡ seen ++ more → rest ≡ event_texts (head_design d history) (length seen) more ++ behind_events d history prints.results → Next history prints
        by [] is e =
            let late = begins_late d history prints.results in
            let short = few history prints [] is in
            absurd (no_head (length seen) caller behind late.1 late.0 (omega (arith, short)) (sym head ∙ e ∙ late.2) late.3)
        by (x ∷ more) is e =
            let texts = cut history prints x more e in
            let less = caller_known history prints x more is in
            let heads = same_heads (length seen) caller x.caller behind (behind_caller (head_design d history) x _) (omega (arith, known, small)) (omega (arith, less, small))
            (sym head ∙ texts ∙ event_head (head_design d history) (length seen) x _) in
            record {
              event = x;
              more = more;
              is = is;
              caller_is = sym heads.0;
              release = sym (release_told (head_design d history) x _) ∙ ap begins_with_r (sym heads.1) ∙ sym same_kind;
              texts = texts;
            }

    -- ---- the caller's next call

    module _ (phase : Phase) (lines : List Step) (said : List Word)
        (leads : (more : List Event) → Leads (version_at d (seen ++ more)) (Between Nothing) (script_of scripts caller) (exchanges caller seen) said phase lines) where
      pub call_is : (history : List Event) (prints : Prints d scripts report history) → (n : Next history prints) → next_call r phase lines ≡ Some n.event.call
      call_is history prints n =
          let session = session_of d history scripts prints.results prints.fit caller known in
          let middle = subst (λ (k : ℕ). exchanges k (seen ++ n.event ∷ n.more) ≡ exchanges k seen ++ Told n.event.call n.event.answer ∷ exchanges k n.more) n.caller_is (own_middle seen n.event n.more) in
          let own : exchanges caller history ≡ exchanges caller seen ++ Told n.event.call n.event.answer ∷ exchanges caller n.more = ap (exchanges caller) n.is ∙ middle in
          let runs = subst (λ (z : List Exchange). Runs (version_at d history) Nothing (script_of scripts caller) z session.0.said session.0.ending) own session.1 in
          let here = subst (λ (z : List Event). Leads (version_at d z) (Between Nothing) (script_of scripts caller) (exchanges caller seen) said phase lines) (sym n.is) (leads (n.event ∷ n.more)) in
          let then = here.back (Told n.event.call n.event.answer ∷ exchanges caller n.more) session.0.said session.0.ending runs in
          let goes = advance (version_at d history) phase lines (Told n.event.call n.event.answer) (exchanges caller n.more) then.0 session.0.ending then.2 in
          subst (λ (b : Bool). next_call b phase lines ≡ Some n.event.call) n.release goes.call

      pub admitted : (history : List Event) (prints : Prints d scripts report history) → (n : Next history prints) → Admits (state_after d seen) n.event
      admitted history prints n = middle_admits d seen n.event n.more (subst (λ (z : List Event). Legal d z) n.is prints.legal)

      -- the call that was made is the one that was printed
      pub event_is : (c : Call) (a : Answer) → next_call r phase lines ≡ Some c → Admits (state_after d seen) (record { caller = caller; call = c; answer = a })
          → (history : List Event) (prints : Prints d scripts report history) → (n : Next history prints) → n.event ≡ record { caller = caller; call = c; answer = a }
      event_is c a wanted mine history prints n =
          let call : n.event.call ≡ c = same_some n.event.call c (sym (call_is history prints n) ∙ wanted) in
          let theirs = admitted history prints n in
          let answers = subst (λ (k : ℕ). Answers (state_after d seen) k c n.event.answer) n.caller_is (subst (λ (z : Call). Answers (state_after d seen) n.event.caller z n.event.answer) call theirs.answers) in
          let legal = legal-left (opening d) seen (n.event ∷ n.more) (subst (λ (z : List Event). Legal d z) n.is prints.legal) in
          same_event n.event (record { caller = caller; call = c; answer = a }) n.caller_is call (one_answer d seen caller c n.event.answer a legal answers mine.answers)

      -- and so the text goes on with its text
      pub goes_on : (c : Call) (a : Answer) → next_call r phase lines ≡ Some c → Admits (state_after d seen) (record { caller = caller; call = c; answer = a })
          → (history : List Event) (prints : Prints d scripts report history)
          → (more : List Event) × (history ≡ (seen ++ record { caller = caller; call = c; answer = a } ∷ []) ++ more)
          × (rest ≡ event_text (head_design d seen) (length seen) (record { caller = caller; call = c; answer = a })
          ++ (event_texts (head_design d history) (length seen + 1) more ++ behind_events d history prints.results))
      goes_on c a wanted mine history prints =
          let n = next history prints in
          let event : Event = record { caller = caller; call = c; answer = a } in
          let same : n.event ≡ event = event_is c a wanted mine history prints n in
          let text : event_text (head_design d history) (length seen) n.event ≡ event_text (head_design d seen) (length seen) n.event =
          ap (λ (z : List Event). event_text (head_design d z) (length seen) n.event) n.is ∙ event_stays d seen n.event n.more (length seen) (subst (λ (z : List Event). Legal d z) n.is prints.legal) in (
            n.more,
            n.is ∙ ap (λ (z : Event). seen ++ z ∷ n.more) same ∙ sym (append_assoc seen (event ∷ []) n.more),
            n.texts ∙ ap (λ (z : List ℕ). z ++ (event_texts (head_design d history) (length seen + 1) n.more ++ behind_events d history prints.results)) (text ∙ ap (event_text (head_design d seen) (length seen)) same),
          )
