-- How a script ends whose caller makes no more calls.
use Rattle.std.proofs.Common.{◌≡◌, ◌∙◌, ℕ, ◌+◌, ◌-◌, ◌≤◌, ◌<◌, List, [], ◌∷◌, ◌++◌, length, drop, take, map, refl, ap, sym, subst, arith, append-nil}
use Rattle.std.specs.Prelude.{MatchOption, Option, Some, None, codes}
use Rattle.std.proofs.lemmas.List.{drop-map, length-drop, take_all}
use Rattle.netlist_schema.specs.Design.{Design}
use Rattle.db_spec.specs.Answers.{most_events}
use Rattle.db_spec.specs.History.{Legal, version_at}
use Rattle.db_spec.specs.declared.event.Event.{Event}
use Rattle.db_core.specs.Story.{Story}
use Rattle.script_spec.specs.Report.{HasFilled, transcript}
use Rattle.script_spec.specs.Session.{Ending, Exchange, Full, LogFull, Nothing, Runs, Whole, Word, exchanges}
use Rattle.script_spec.specs.Texts.{line}
use Rattle.script_spec.specs.declared.script.ScriptLine.{ScriptLine}
use Rattle.script_spec.specs.declared.script.Step.{Step}
use Rattle.script_run_spec.specs.Calls.{Writes}
use Rattle.script_run_spec.proofs.OneLine.{writes_none, writes_one}
use Rattle.edit_spec.specs.declared.ops.Op.{Op}
use Rattle.history_check_spec.specs.Left.{AreLoud, Between, EndsBy, Leads, Left, NoEnd, Phase}
use Rattle.history_check_spec.proofs.Ending.{block_never, owes_again_never, owes_never, pin_never}
use Rattle.history_check_spec.proofs.Leading.{leads_on}
use Rattle.history_check.specs.Follow.{Ends, EndsNever, IsEnd}
use Rattle.history_turns.specs.Moves.{HasPassed, Passes}
use Rattle.history_turns.specs.Seats.{Stands, phase_of}
use Rattle.history_check.specs.declared.ends.End.{End}
use Rattle.history_turns.specs.declared.seats.At.{At}
use Rattle.history_turns.specs.declared.seats.At.TheVariants as at
use Rattle.history_turns.specs.declared.seats.Seat.{Seat}
use Rattle.history_turns.proofs.Turning.{writes_both}

module _ (story : Story) (caller : ℕ) (steps : List Step) (seat : Seat) (stands : Stands story caller steps seat) (legal : Legal story.opening story.events) (mid : List ℕ) (a : At) (k : ℕ)
    (passed : HasPassed seat.at steps seat.line seat.said.items mid a k) where
  abbrev versions : ℕ → Design
  versions = version_at story.opening story.events

  abbrev p : Passes story (phase_of seat.at) (drop seat.line steps) seat.said.items mid (phase_of a) (drop k steps)
  p = passed.passes story caller legal stands.pin

  -- what was said, up to the end
  abbrev words : List Word
  words = stands.said ++ p.words

  here : Leads versions (Between Nothing) steps (exchanges caller story.events) words (phase_of a) (drop k steps)
  here =
      let none = append-nil story.events in
      let to_seat = subst (λ (z : List Event). Leads (version_at story.opening z) (Between Nothing) steps (exchanges caller story.events) stands.said (phase_of seat.at) (drop seat.line steps)) none (stands.leads []) in
      let on = subst (λ (z : List Event). Leads (version_at story.opening z) (phase_of seat.at) (drop seat.line steps) [] p.words (phase_of a) (drop k steps)) none (p.leads []) in
      subst (λ (z : List Exchange). Leads versions (Between Nothing) steps z words (phase_of a) (drop k steps)) (append-nil (exchanges caller story.events))
      (leads_on versions (Between Nothing) (phase_of seat.at) (phase_of a) steps (drop seat.line steps) (drop k steps) (exchanges caller story.events) [] stands.said p.words to_seat on)

  said_here : Writes story.opening story.events [] mid words
  said_here = writes_both story.opening story.events [] seat.said.items mid stands.said p.words stands.written p.writes

  -- the session ends by these words
  session : (last : List Word) (ending : Ending) → EndsBy versions (phase_of a) (drop k steps) last ending → Runs versions Nothing steps (exchanges caller story.events) (words ++ last) ending
  session last ending e =
      subst (λ (z : List Exchange). Runs versions Nothing steps z (words ++ last) ending) (append-nil (exchanges caller story.events)) (here.on [] last ending e.on)

  text_here : (text : List ℕ) (last : List Word) → Writes story.opening story.events mid text last → text ≡ transcript story.opening story.events (words ++ last)
  text_here text last w =
      let none = append-nil story.events in
      let whole = writes_both story.opening story.events [] mid text words last said_here w [] (subst (λ (z : List Event). Legal story.opening z) (sym none) legal) in
      whole ∙ ap (λ (z : List Event). transcript story.opening z (words ++ last)) none

  pub ends : (text : List ℕ) (last : List Word) (ending : Ending) → EndsBy versions (phase_of a) (drop k steps) last ending → HasFilled story.events ending → Writes story.opening story.events mid text last
      → Ends story caller steps text
  ends text last ending e filled w = record {
    came = record { said = words ++ last; ending = ending };
    session = session last ending e;
    filled = filled;
    text_is = text_here text last w;
  }

  -- where any session goes on
  left : (said : List Word) (ending : Ending) → Runs versions Nothing steps (exchanges caller story.events) said ending → (more : List Word) × (said ≡ words ++ more) × Left versions (phase_of a) (drop k steps) [] more ending
  left said ending runs = here.back [] said ending (subst (λ (z : List Exchange). Runs versions Nothing steps z said ending) (sym (append-nil (exchanges caller story.events))) runs)

  pub ends_never : (most : ℕ) → NoEnd versions (phase_of a) (drop k steps) → EndsNever story caller steps most
  ends_never most none said ending runs filled small = absurd (let l = left said ending runs in none l.0 ending l.2)

  -- the history has the places that were wanted
  pub ends_not_full : (most : ℕ) (last : List Word) (places : ℕ) → EndsBy versions (phase_of a) (drop k steps) last (Full places) → length story.events + places ≤ most_events → EndsNever story caller steps most
  ends_not_full most last places e room said ending runs filled small =
      let l = left said ending runs in
      let is = (e.back l.0 ending l.2).1 in
      let wanting : most_events < length story.events + places = subst (λ (z : Ending). HasFilled story.events z) is filled in
      omega (arith, room, wanting)

  -- ---- by the kinds of ends

  pub ends_whole : EndsBy versions (phase_of a) (drop k steps) [] Whole → Ends story caller steps mid
  ends_whole e = ends mid [] Whole e tt (writes_none story.opening story.events mid)

  pub ends_over : (places : ℕ) → EndsBy versions (phase_of a) (drop k steps) [] (Full places) → most_events < length story.events + places → Ends story caller steps mid
  ends_over places e full = ends mid [] (Full places) e full (writes_none story.opening story.events mid)

  pub ends_full : (text : List ℕ) (places : ℕ) → EndsBy versions (phase_of a) (drop k steps) (LogFull ∷ []) (Full places) → most_events < length story.events + places
      → text ≡ mid ++ line (codes "log-full" ∷ []) → Ends story caller steps text
  ends_full text places e full said = ends text (LogFull ∷ []) (Full places) e full (writes_one story.opening story.events mid text _ LogFull (λ more. refl) said)

-- ---- where a pin is held, or a call is owed

pub never_ends : (a : At) (lines : List Step) → AreLoud (phase_of a) lines → (a ≡ at.Free → ⊥) → (a ≡ at.OffPin → ⊥) → ((ops : List Op) (retries : ℕ) → a ≡ at.Again ops retries → ⊥) → ((places : ℕ) → a ≡ at.Over places → ⊥)
    → (vs : ℕ → Design) → NoEnd vs (phase_of a) lines
never_ends at.Free lines loud free off again over vs = absurd (free refl)
never_ends (at.OnPin pin) lines loud free off again over vs = pin_never vs pin.number pin.version lines loud
never_ends at.OffPin lines loud free off again over vs = absurd (off refl)
never_ends (at.InBlock block) lines loud free off again over vs = block_never vs block.tx.pin.number block.tx.pin.version block.retries block.tx.ops lines loud
never_ends (at.Owes pin) lines loud free off again over vs = owes_never vs pin.number lines
never_ends (at.OwesAgain block) lines loud free off again over vs = owes_again_never vs block.tx.pin.number block.retries block.tx.ops lines
never_ends (at.Again ops retries) lines loud free off again over vs = absurd (again ops retries refl)
never_ends (at.Over places) lines loud free off again over vs = absurd (over places refl)

-- ---- the lines that are left

-- their steps
pub rest_steps : (lines : List ScriptLine) (k : ℕ) → map (λ (l : ScriptLine). l.step) (take (length lines - k) (drop k lines)) ≡ drop k (map (λ (l : ScriptLine). l.step) lines)
rest_steps lines k =
    let f : ScriptLine → Step = λ l. l.step in
    let long = length-drop k lines in
    ap (map f) (take_all (length lines - k) (drop k lines) (omega (arith, long))) ∙ sym (drop-map f k lines)

pub end_here : (lines : List ScriptLine) (k : ℕ) (phase : Phase) (e : End) → IsEnd phase (map (λ (l : ScriptLine). l.step) (take (length lines - k) (drop k lines))) e → IsEnd phase (drop k (map (λ (l : ScriptLine). l.step) lines)) e
end_here lines k phase e is = subst (λ (z : List Step). IsEnd phase z e) (rest_steps lines k) is

module _ (story : Story) (caller : ℕ) (steps : List Step) (seat : Seat) (stands : Stands story caller steps seat) (legal : Legal story.opening story.events) (mid : List ℕ) (a : At) (k : ℕ)
    (passed : HasPassed seat.at steps seat.line seat.said.items mid a k) (events places most : ℕ) (many : events ≡ length story.events) where
  -- with the places that were wanted
  room_is : events + places ≤ most_events → length story.events + places ≤ most_events
  room_is le = omega (arith, le, many)

  full_is : most_events < events + places → most_events < length story.events + places
  full_is less = omega (arith, less, many)

  pub over_result : EndsBy (version_at story.opening story.events) (phase_of a) (drop k steps) [] (Full places) → (o : Option (List ℕ))
      → MatchOption o (events + places ≤ most_events) (λ text. (most_events < events + places) × (text ≡ mid)) → MatchOption o (EndsNever story caller steps most) (Ends story caller steps)
  over_result e None le = ends_not_full story caller steps seat stands legal mid a k passed most [] places e (room_is le)
  over_result e (Some text) x = subst (λ (z : List ℕ). Ends story caller steps z) (sym x.1) (ends_over story caller steps seat stands legal mid a k passed places e (full_is x.0))

  pub full_result : (said : List ℕ) → said ≡ mid ++ line (codes "log-full" ∷ []) → EndsBy (version_at story.opening story.events) (phase_of a) (drop k steps) (LogFull ∷ []) (Full places) → (o : Option (List ℕ))
      → MatchOption o (events + places ≤ most_events) (λ text. (most_events < events + places) × (text ≡ said)) → MatchOption o (EndsNever story caller steps most) (Ends story caller steps)
  full_result said is e None le = ends_not_full story caller steps seat stands legal mid a k passed most (LogFull ∷ []) places e (room_is le)
  full_result said is e (Some text) x = subst (λ (z : List ℕ). Ends story caller steps z) (sym x.1) (ends_full story caller steps seat stands legal mid a k passed said places e (full_is x.0) is)
