-- A text is the report of one history at most.
use Rattle.std.proofs.Common.{◌≡◌, ◌∙◌, ℕ, ◌+◌, ◌<◌, ◌≤◌, ◌^◌, Bool, List, [], ◌∷◌, ◌++◌, length, refl, ap, sym, subst, arith, append_assoc, append-nil}
use Rattle.std.specs.Prelude.{Some, codes}
use Rattle.std.specs.List.{All}
use Rattle.std.proofs.lemmas.List.{append_cancel_left}
use Rattle.netlist_schema.specs.Design.{Design}
use Rattle.db_spec.specs.Answers.{Answers, most_events, places}
use Rattle.db_spec.specs.History.{Legal, state_after, version_at}
use Rattle.db_spec.specs.State.{opening}
use Rattle.db_spec.specs.declared.event.Answer.{Answer}
use Rattle.db_spec.specs.declared.event.Call.{Call}
use Rattle.db_spec.specs.declared.event.Event.{Event}
use Rattle.db_spec.proofs.Histories.{legal-left}
use Rattle.db_spec.proofs.Kept.{events_after}
use Rattle.db_spec.proofs.Promised.{growth, one_answer}
use Rattle.script_spec.specs.Report.{Prints, SessionResult, head_design}
use Rattle.script_spec.specs.Session.{Exchange, Nothing, Runs, Told, exchanges}
use Rattle.script_spec.specs.Texts.{event_text, event_texts, line}
use Rattle.script_spec.specs.declared.script.Step.{Step}
use Rattle.history_check_spec.specs.Heads.{begins_with_r, behind_events}
use Rattle.history_check_spec.specs.Left.{Between, is_release, next_call}
use Rattle.history_check_spec.specs.Laws.{OnePrinted}
use Rattle.history_check_spec.proofs.Advancing.{Come, advance, come}
use Rattle.history_check_spec.proofs.Heads.{begins_late, behind_caller, event_head, no_head, release_told, report_parts, same_heads}
use Rattle.history_check_spec.proofs.Meeting.{event_stays, middle_admits, middle_holds, own_middle, script_of, session_of}

-- ---- how long a history is

pub not_long : (d : Design) (history : List Event) → Legal d history → length history ≤ most_events
not_long d history legal =
    let empty : history ++ [] ≡ history = append-nil history in
    let whole = growth d history [] (subst (λ (z : List Event). Legal d z) (sym empty) legal) in
    let within : places (state_after d (history ++ [])) ≤ most_events = whole.within in
    let within_here : places (state_after d history) ≤ most_events = subst (λ (z : List Event). places (state_after d z) ≤ most_events) empty within in
    let events : (state_after d history).events ≡ length history = events_after d history in
    omega (arith, within_here, events)

-- ---- the next call of a caller

-- a caller's exchanges so far, and what its next one tells
pub next_is : (versions : ℕ → Design) (steps : List Step) (own : List Exchange) (c : Come (Between Nothing) steps own) (call : Call) (a : Answer) (rest : List Exchange) (all : _) (ending : _)
    → Runs versions Nothing steps (own ++ Told call a ∷ rest) all ending → next_call (is_release call) c.next c.left ≡ Some call
next_is versions steps own c call a rest all ending runs =
    let then = (c.leads versions).1.back (Told call a ∷ rest) all ending runs in
    (advance versions c.next c.left (Told call a) rest then.0 ending then.2).call

pub same_some : (a b : Call) → Some a ≡ Some b → a ≡ b
same_some a b e = cc (e)

pub same_event : (a b : Event) → a.caller ≡ b.caller → a.call ≡ b.call → a.answer ≡ b.answer → a ≡ b
same_event a b p q r =
    ap (λ (n : ℕ). record { caller = n; call = a.call; answer = a.answer }) p
    ∙ ap (λ (c : Call). record { caller = b.caller; call = c; answer = a.answer }) q
    ∙ ap (λ (z : Answer). record { caller = b.caller; call = b.call; answer = z }) r

module _ (d : Design) (scripts : List (List Step)) (text : List ℕ) (small : length scripts < 2 ^ 64) where
  -- the calls of two events that come next and have the same caller
  same_call : (history other : List Event) → Prints d scripts text history → Prints d scripts text other → (seen : List Event) (a b : Event) (more rest : List Event)
      → history ≡ seen ++ a ∷ more → other ≡ seen ++ b ∷ rest → a.caller ≡ b.caller → is_release a.call ≡ is_release b.call → a.caller < length scripts → a.call ≡ b.call
  same_call history other p q seen a b more rest e f caller same_kind less =
      let k = a.caller in
      let mine = session_of d history scripts p.results p.fit k less in
      let theirs = session_of d other scripts q.results q.fit k less in
      let own_a : exchanges k history ≡ exchanges k seen ++ Told a.call a.answer ∷ exchanges k more = ap (exchanges k) e ∙ own_middle seen a more in
      let own_b : exchanges k other ≡ exchanges k seen ++ Told b.call b.answer ∷ exchanges k rest =
      ap (exchanges k) f ∙ subst (λ (n : ℕ). exchanges n (seen ++ b ∷ rest) ≡ exchanges n seen ++ Told b.call b.answer ∷ exchanges n rest) (sym caller) (own_middle seen b rest) in
      let run_a = subst (λ (z : List Exchange). Runs (version_at d history) Nothing (script_of scripts k) z mine.0.said mine.0.ending) own_a mine.1 in
      let run_b = subst (λ (z : List Exchange). Runs (version_at d other) Nothing (script_of scripts k) z theirs.0.said theirs.0.ending) own_b theirs.1 in
      let c = come (version_at d history) (Between Nothing) (script_of scripts k) (exchanges k seen) (Told a.call a.answer ∷ exchanges k more) mine.0.said mine.0.ending run_a in
      let first = next_is (version_at d history) (script_of scripts k) (exchanges k seen) c a.call a.answer (exchanges k more) mine.0.said mine.0.ending run_a in
      let second = next_is (version_at d other) (script_of scripts k) (exchanges k seen) c b.call b.answer (exchanges k rest) theirs.0.said theirs.0.ending run_b in
      same_some a.call b.call (sym first ∙ ap (λ (r : Bool). next_call r c.next c.left) same_kind ∙ second)

  -- two events that come next in texts that go on in the same way
  same_next : (history other : List Event) → Prints d scripts text history → Prints d scripts text other → (seen : List Event) (a b : Event) (more rest : List Event) (number : ℕ) (s t : List ℕ)
      → history ≡ seen ++ a ∷ more → other ≡ seen ++ b ∷ rest → event_text (head_design d history) number a ++ s ≡ event_text (head_design d other) number b ++ t → a ≡ b
  same_next history other p q seen a b more rest number s t e f texts =
      let less_a = middle_holds (λ (x : Event). x.caller < length scripts) seen a more (subst (λ (z : List Event). All (λ (x : Event). x.caller < length scripts) z) e p.callers) in
      let less_b = middle_holds (λ (x : Event). x.caller < length scripts) seen b rest (subst (λ (z : List Event). All (λ (x : Event). x.caller < length scripts) z) f q.callers) in
      let heads = same_heads number a.caller b.caller (behind_caller (head_design d history) a s) (behind_caller (head_design d other) b t) (omega (arith, less_a, small)) (omega (arith, less_b, small))
      (sym (event_head (head_design d history) number a s) ∙ texts ∙ event_head (head_design d other) number b t) in
      let same_kind : is_release a.call ≡ is_release b.call =
      sym (release_told (head_design d history) a s) ∙ ap begins_with_r heads.1 ∙ release_told (head_design d other) b t in
      let call = same_call history other p q seen a b more rest e f heads.0 same_kind less_a in
      let admits_a = middle_admits d seen a more (subst (λ (z : List Event). Legal d z) e p.legal) in
      let admits_b = middle_admits d seen b rest (subst (λ (z : List Event). Legal d z) f q.legal) in
      let theirs = subst (λ (n : ℕ). Answers (state_after d seen) n a.call b.answer) (sym heads.0)
      (subst (λ (c : Call). Answers (state_after d seen) b.caller c b.answer) (sym call) admits_b.answers) in
      let answer = one_answer d seen a.caller a.call a.answer b.answer (legal-left (opening d) seen (a ∷ more) (subst (λ (z : List Event). Legal d z) e p.legal)) admits_a.answers theirs in
      same_event a b heads.0 call answer

  -- a text goes on with an event, or with what stands behind the events
  ends_here : (history other : List Event) → Prints d scripts text other → (b : Event) (rest : List Event) (results : List SessionResult) (number : ℕ) (t : List ℕ)
      → number < 2 ^ 64 → behind_events d history results ≡ event_text (head_design d other) number b ++ t → ⊥
  ends_here history other q b rest results number t few e =
      let late = begins_late d history results in
      no_head number b.caller (behind_caller (head_design d other) b t) late.1 late.0 few (sym (event_head (head_design d other) number b t) ∙ sym e ∙ late.2) late.3

  one_from : (history other : List Event) → Prints d scripts text history → Prints d scripts text other → (p q : List SessionResult) (seen more rest : List Event) (number : ℕ)
      → history ≡ seen ++ more → other ≡ seen ++ rest → number + length more < 2 ^ 64 → number + length rest < 2 ^ 64
      → event_texts (head_design d history) number more ++ behind_events d history p ≡ event_texts (head_design d other) number rest ++ behind_events d other q → more ≡ rest
  one_from history other x y p q seen [] [] number e f few_a few_b texts = refl
  one_from history other x y p q seen [] (b ∷ rest) number e f few_a few_b texts =
      absurd (ends_here history other y b rest p number (event_texts (head_design d other) (number + 1) rest ++ behind_events d other q) (omega (arith, few_a))
      (texts ∙ append_assoc (event_text (head_design d other) number b) (event_texts (head_design d other) (number + 1) rest) (behind_events d other q)))
  one_from history other x y p q seen (a ∷ more) [] number e f few_a few_b texts =
      absurd (ends_here other history x a more q number (event_texts (head_design d history) (number + 1) more ++ behind_events d history p) (omega (arith, few_b))
      (sym texts ∙ append_assoc (event_text (head_design d history) number a) (event_texts (head_design d history) (number + 1) more) (behind_events d history p)))
  one_from history other x y p q seen (a ∷ more) (b ∷ rest) number e f few_a few_b texts =
      let behind_a = event_texts (head_design d history) (number + 1) more ++ behind_events d history p in
      let behind_b = event_texts (head_design d other) (number + 1) rest ++ behind_events d other q in
      let cut : event_text (head_design d history) number a ++ behind_a ≡ event_text (head_design d other) number b ++ behind_b =
      sym (append_assoc (event_text (head_design d history) number a) (event_texts (head_design d history) (number + 1) more) (behind_events d history p)) ∙ texts
      ∙ append_assoc (event_text (head_design d other) number b) (event_texts (head_design d other) (number + 1) rest) (behind_events d other q) in
      let same : a ≡ b = same_next history other x y seen a b more rest number behind_a behind_b e f cut in
      let text_a : event_text (head_design d history) number a ≡ event_text (head_design d seen) number a =
      ap (λ (z : List Event). event_text (head_design d z) number a) e ∙ event_stays d seen a more number (subst (λ (z : List Event). Legal d z) e x.legal) in
      let text_b : event_text (head_design d other) number b ≡ event_text (head_design d seen) number b =
      ap (λ (z : List Event). event_text (head_design d z) number b) f ∙ event_stays d seen b rest number (subst (λ (z : List Event). Legal d z) f y.legal) in
      let one : event_text (head_design d history) number a ≡ event_text (head_design d other) number b = text_a ∙ ap (event_text (head_design d seen) number) same ∙ sym text_b in
      let then = append_cancel_left (event_text (head_design d other) number b) behind_a behind_b (ap (λ (z : List ℕ). z ++ behind_a) (sym one) ∙ cut) in
      let front : history ≡ (seen ++ a ∷ []) ++ more = e ∙ sym (append_assoc seen (a ∷ []) more) in
      let other_front : other ≡ (seen ++ a ∷ []) ++ rest = f ∙ ap (λ (z : Event). seen ++ z ∷ rest) (sym same) ∙ sym (append_assoc seen (a ∷ []) rest) in
      let deeper = one_from history other x y p q (seen ++ a ∷ []) more rest (number + 1) front other_front (omega (arith, few_a)) (omega (arith, few_b)) then in
      ap (λ (z : Event). z ∷ more) same ∙ ap (λ (z : List Event). b ∷ z) deeper

  pub one : (history other : List Event) → Prints d scripts text history → Prints d scripts text other → history ≡ other
  one history other x y =
      let texts : line (codes "history" ∷ []) ++ (event_texts (head_design d history) 0 history ++ behind_events d history x.results)
      ≡ line (codes "history" ∷ []) ++ (event_texts (head_design d other) 0 other ++ behind_events d other y.results) =
      sym (report_parts d history x.results) ∙ sym x.printed ∙ y.printed ∙ report_parts d other y.results in
      let then = append_cancel_left (line (codes "history" ∷ [])) (event_texts (head_design d history) 0 history ++ behind_events d history x.results)
      (event_texts (head_design d other) 0 other ++ behind_events d other y.results) texts in
      let few_a = not_long d history x.legal in
      let few_b = not_long d other y.legal in
      one_from history other x y x.results y.results [] history other 0 refl refl (omega (arith, few_a)) (omega (arith, few_b)) then

pub one_printed : OnePrinted
one_printed d scripts text history other small x y = one d scripts text small history other x y
