-- A call behind lines that make none, and where all callers stand then.
use Rattle.std.proofs.Common.{◌≡◌, ◌∙◌, ℕ, ◌+◌, ◌≤◌, ◌<◌, Bool, List, [], ◌∷◌, ◌++◌, None, length, drop, map, refl, ap, sym, subst, arith, append_assoc, append-nil}
use Rattle.std.specs.Prelude.{Option, Some}
use Rattle.std.proofs.lemmas.List.{drop-map, drop_all}
use Rattle.netlist_schema.specs.Design.{Design}
use Rattle.edit_tx.specs.Facts.{PinFacts}
use Rattle.db_spec.specs.History.{Legal, state_after, version_at}
use Rattle.db_spec.specs.State.{State, opening}
use Rattle.db_spec.specs.declared.event.Call.{Call}
use Rattle.db_spec.specs.declared.event.Event.{Event}
use Rattle.db_spec.proofs.Histories.{goes_on_from}
use Rattle.db_spec.proofs.Versions.{follows_after, grown_on}
use Rattle.db_core.specs.Calls.{Adds, event_of}
use Rattle.db_core.specs.Story.{Story, IsPinOf}
use Rattle.db_core.proofs.Staying.{pinned_there}
use Rattle.script_spec.specs.Report.{transcript}
use Rattle.script_spec.specs.Session.{Exchange, Nothing, Told, Word, exchanges}
use Rattle.script_spec.specs.declared.script.ScriptLine.{ScriptLine}
use Rattle.script_spec.specs.declared.script.Step.{Step}
use Rattle.script_spec.proofs.Stays.{filter_append}
use Rattle.script_run_spec.specs.Calls.{Writes}
use Rattle.script_run_spec.proofs.Along.{transcript-append}
use Rattle.history_check_spec.specs.Left.{AreLoud, Between, IsLoud, Leads, Phase}
use Rattle.history_check_spec.proofs.Leading.{leads_nowhere, leads_on}
use Rattle.history_check_spec.proofs.Meeting.{others_next, own_next}
use Rattle.history_turns.specs.Moves.{Called, Comes, ComesThere, HasPassed, IsStuck, Moves, Owed, Passes, Turned, left_by}
use Rattle.history_turns.specs.Seats.{HasPinnedTop, IsAt, IsOpen, Stands, phase_of}
use Rattle.history_turns.specs.declared.seats.At.{At}
use Rattle.history_turns.specs.declared.seats.At.TheVariants as at
use Rattle.history_turns.specs.declared.seats.Block.{Block}
use Rattle.history_turns.specs.declared.seats.Seat.{Seat}
use Rattle.history_turns.proofs.Calling.{others_kept}

-- ---- the history with one event more

pub story_is : (old new : Story) (event : Event) → Adds old new event → new ≡ record { opening = old.opening; events = old.events ++ event ∷ [] }
story_is old new event adds = λ i. record { opening = adds.opening i; events = adds.events i }

-- what comes behind the new history comes behind the old one
on_both : (old : Story) (event : Event) (more : List Event) → (old.events ++ event ∷ []) ++ more ≡ old.events ++ (event ∷ more)
on_both old event more = append_assoc old.events (event ∷ []) more

-- text before stays what was said
pub writes_later : (old new : Story) (event : Event) → Adds old new event → (before text : List ℕ) (words : List Word) → Writes old.opening old.events before text words → Writes new.opening new.events before text words
writes_later old new event adds before text words w =
    subst (λ (s : Story). Writes s.opening s.events before text words) (sym (story_is old new event adds))
    (λ more legal. subst (λ (z : List Event). text ≡ before ++ transcript old.opening z words) (sym (on_both old event more)) (w (event ∷ more) (subst (λ (z : List Event). Legal old.opening z) (on_both old event more) legal)))

pub leads_later : (old new : Story) (event : Event) → Adds old new event → (phase next : Phase) (lines left : List Step) (done : List Exchange) (words : List Word)
    → ((more : List Event) → Leads (version_at old.opening (old.events ++ more)) phase lines done words next left)
    → (more : List Event) → Leads (version_at new.opening (new.events ++ more)) phase lines done words next left
leads_later old new event adds phase next lines left done words l =
    subst (λ (s : Story). (more : List Event) → Leads (version_at s.opening (s.events ++ more)) phase lines done words next left) (sym (story_is old new event adds))
    (λ more. subst (λ (z : List Event). Leads (version_at old.opening z) phase lines done words next left) (sym (on_both old event more)) (l (event ∷ more)))

pub writes_both : (d : Design) (seen : List Event) (before mid text : List ℕ) (a b : List Word) → Writes d seen before mid a → Writes d seen mid text b → Writes d seen before text (a ++ b)
writes_both d seen before mid text a b x y more legal =
    let whole = transcript d (seen ++ more) in
    y more legal ∙ ap (λ (z : List ℕ). z ++ whole b) (x more legal) ∙ append_assoc before (whole a) (whole b) ∙ ap (λ (z : List ℕ). before ++ z) (sym (transcript-append d (seen ++ more) a b))

-- ---- a call behind lines that make none

pub stuck_behind : (story : Story) (r : Bool) (phase next : Phase) (lines left : List Step) (before text : List ℕ) → Passes story phase lines before text next left → IsStuck story r next left → IsStuck story r phase lines
stuck_behind story r phase next lines left before text p stuck c is = stuck c (sym (p.calls r) ∙ is)

pub moves_behind : (old new : Story) (caller : ℕ) (r : Bool) (phase mid next : Phase) (lines between left : List Step) (before during text : List ℕ)
    → Passes old phase lines before during mid between → Moves old new caller r mid between during text next left → Moves old new caller r phase lines before text next left
moves_behind old new caller r phase mid next lines between left before during text p m =
    let event = event_of caller m.call m.answer in
    record {
      call = m.call;
      answer = m.answer;
      adds = m.adds;
      wanted = p.calls r ∙ m.wanted;
      words = p.words ++ m.words;
      leads = λ more. leads_on (version_at new.opening (new.events ++ more)) phase mid next lines between left [] (Told m.call m.answer ∷ []) p.words m.words
          (leads_later old new event m.adds phase mid lines between [] p.words p.leads more) (m.leads more);
      writes = writes_both new.opening new.events before during text p.words m.words (writes_later old new event m.adds before during p.words p.writes) m.writes;
    }

-- ---- where callers stand

pub stands_open : (d : Design) (caller : ℕ) (steps : List Step) (seat : Seat) → IsOpen seat → Stands (record { opening = d; events = [] }) caller steps seat
stands_open d caller steps seat fresh =
    let same : seat.at ≡ at.Free = fresh.at_is in
    record {
      said = [];
      leads = λ more.
          subst (λ (a : At). Leads (version_at d more) (Between Nothing) steps [] [] (phase_of a) (drop seat.line steps)) (sym same)
          (subst (λ (n : ℕ). Leads (version_at d more) (Between Nothing) steps [] [] (Between Nothing) (drop n steps)) (sym fresh.line_is) (leads_nowhere (version_at d more) (Between Nothing) steps));
      written = λ more legal. fresh.said_is;
      pin = subst (λ (a : At). IsAt (record { opening = d; events = [] }) caller a) (sym same) tt;
      within = subst (λ (n : ℕ). n ≤ length steps) (sym fresh.line_is) (omega arith);
    }

own_more : (old new : Story) (caller : ℕ) (c : Call) (a : _) → Adds old new (event_of caller c a) → exchanges caller new.events ≡ exchanges caller old.events ++ Told c a ∷ []
own_more old new caller c a adds =
    ap (exchanges caller) adds.events ∙ filter_append caller old.events (event_of caller c a ∷ [])
    ∙ ap (λ (z : List Exchange). exchanges caller old.events ++ z) (own_next caller (event_of caller c a) [] refl)

others_more : (old new : Story) (caller : ℕ) (event : Event) → (event.caller ≡ caller → ⊥) → Adds old new event → exchanges caller new.events ≡ exchanges caller old.events
others_more old new caller event other adds =
    ap (exchanges caller) adds.events ∙ filter_append caller old.events (event ∷ [])
    ∙ ap (λ (z : List Exchange). exchanges caller old.events ++ z) (others_next caller event [] other) ∙ append-nil (exchanges caller old.events)

-- the caller stands behind its call
pub stands_turned : (old new : Story) (caller : ℕ) (r : Bool) (steps : List Step) (seat next : Seat) → Stands old caller steps seat → Turned old new caller r steps seat next → Stands new caller steps next
stands_turned old new caller r steps seat next s t =
    let m = t.moves in
    let event = event_of caller m.call m.answer in
    record {
      said = s.said ++ m.words;
      leads = λ more.
          subst (λ (z : List Exchange). Leads (version_at new.opening (new.events ++ more)) (Between Nothing) steps z (s.said ++ m.words) (phase_of next.at) (drop next.line steps)) (sym (own_more old new caller m.call m.answer m.adds))
          (leads_on (version_at new.opening (new.events ++ more)) (Between Nothing) (phase_of seat.at) (phase_of next.at) steps (drop seat.line steps) (drop next.line steps)
          (exchanges caller old.events) (Told m.call m.answer ∷ []) s.said m.words
          (leads_later old new event m.adds (Between Nothing) (phase_of seat.at) steps (drop seat.line steps) (exchanges caller old.events) s.said s.leads more) (m.leads more));
      written = writes_both new.opening new.events [] seat.said.items next.said.items s.said m.words (writes_later old new event m.adds [] seat.said.items s.said s.written) m.writes;
      pin = t.pin;
      within = t.within;
    }

-- the others stand where they stood
pub stands_others : (old new : Story) (caller : ℕ) (steps : List Step) (seat : Seat) (event : Event) → Legal old.opening old.events → (event.caller ≡ caller → ⊥) → Adds old new event
    → Stands old caller steps seat → Stands new caller steps seat
stands_others old new caller steps seat event legal other adds s = record {
  said = s.said;
  leads = λ more.
      subst (λ (z : List Exchange). Leads (version_at new.opening (new.events ++ more)) (Between Nothing) steps z s.said (phase_of seat.at) (drop seat.line steps)) (sym (others_more old new caller event other adds))
      (leads_later old new event adds (Between Nothing) (phase_of seat.at) steps (drop seat.line steps) (exchanges caller old.events) s.said s.leads more);
  written = writes_later old new event adds [] seat.said.items s.said s.written;
  pin = others_kept old new event caller seat.at legal adds other s.pin;
  within = s.within;
}

-- ---- tops

-- the top of a pinned version is that of the opening design
pinned_top : (story : Story) (pin : PinFacts) → Legal story.opening story.events → IsPinOf story pin → pin.design.top ≡ story.opening.top
pinned_top story pin legal mine =
    let state : State = state_after story.opening story.events in
    let le = pinned_there story pin legal mine in
    let grown = grown_on state (follows_after story.opening story.events) 0 pin.version pin.version (omega arith) le in
    let first : state.first ≡ story.opening = (goes_on_from (opening story.opening) story.events).first in
    ap (λ (e : Design). e.top) mine.design ∙ sym grown.top ∙ ap (λ (e : Design). e.top) first

pub has_top : (story : Story) (caller : ℕ) (a : At) → Legal story.opening story.events → (story.opening.top ≡ None → ⊥) → IsAt story caller a → HasPinnedTop a
has_top story caller at.Free legal top mine = tt
has_top story caller (at.OnPin pin) legal top mine = λ none. top (sym (pinned_top story pin legal mine.is_pin) ∙ none)
has_top story caller at.OffPin legal top mine = tt
has_top story caller (at.InBlock block) legal top mine = tt
has_top story caller (at.Owes pin) legal top mine = tt
has_top story caller (at.OwesAgain block) legal top mine = tt
has_top story caller (at.Again ops retries) legal top mine = tt
has_top story caller (at.Over places) legal top mine = tt

-- ---- the turn of a caller

-- behind another call of a line than a commit whose transaction is to be run again, that line is passed
pub others_left : (a : At) (s : Step) (lines : List Step) → ((block : Block) → a ≡ at.OwesAgain block → ⊥) → left_by a s lines ≡ lines
others_left at.Free s lines other = refl
others_left (at.OnPin pin) s lines other = refl
others_left at.OffPin s lines other = refl
others_left (at.InBlock block) s lines other = refl
others_left (at.Owes pin) s lines other = refl
others_left (at.OwesAgain block) s lines other = absurd (other block refl)
others_left (at.Again ops retries) s lines other = refl
others_left (at.Over places) s lines other = refl

module _ (old : Story) (caller : ℕ) (steps : List Step) (seat : Seat) (legal : Legal old.opening old.events) (mine : IsAt old caller seat.at) (mid : List ℕ) (a : At) (k : ℕ)
    (passed : HasPassed seat.at steps seat.line seat.said.items mid a k) (r : Bool) where
  abbrev quiet : Passes old (phase_of seat.at) (drop seat.line steps) seat.said.items mid (phase_of a) (drop k steps)
  quiet = passed.passes old caller legal mine

  pub still_at : IsAt old caller a
  still_at = passed.pin old caller mine

  pub stuck_there : IsStuck old r (phase_of a) (drop k steps) → IsStuck old r (phase_of seat.at) (drop seat.line steps)
  stuck_there stuck = stuck_behind old r (phase_of seat.at) (phase_of a) (drop seat.line steps) (drop k steps) seat.said.items mid quiet stuck

  pub none_there : (new : Story) (text : List ℕ) (o : Option At) → ((next : At) → o ≡ Some next → ⊥) → ComesThere old new caller r (phase_of a) (drop k steps) mid text o → IsStuck old r (phase_of seat.at) (drop seat.line steps)
  none_there new text None none c = stuck_there c
  none_there new text (Some next) none c = absurd (none next refl)

  -- a call where the lines stay
  pub turned_there : (new : Story) (next : Seat) → next.line ≡ k → Owed old new caller r (phase_of a) (drop k steps) mid next.said.items next.at → Turned old new caller r steps seat next
  turned_there new next is o = record {
    moves = subst (λ (n : ℕ). Moves old new caller r (phase_of seat.at) (drop seat.line steps) seat.said.items next.said.items (phase_of next.at) (drop n steps)) (sym is)
        (moves_behind old new caller r (phase_of seat.at) (phase_of a) (phase_of next.at) (drop seat.line steps) (drop k steps) (drop k steps) seat.said.items mid next.said.items quiet o.moves);
    pin = o.pin;
    within = subst (λ (n : ℕ). n ≤ length steps) (sym is) passed.within;
  }

  -- a call of the next line
  module _ (s : Step) (less : k < length steps) (here : drop k steps ≡ s ∷ drop (k + 1) steps) where
    pub loud_here : IsLoud (phase_of a) s
    loud_here = subst (λ (z : List Step). AreLoud (phase_of a) z) here passed.loud

    pub stuck_line : ((lines : List Step) → IsStuck old r (phase_of a) (s ∷ lines)) → IsStuck old r (phase_of seat.at) (drop seat.line steps)
    stuck_line stuck = stuck_there (subst (λ (z : List Step). IsStuck old r (phase_of a) z) (sym here) (stuck (drop (k + 1) steps)))

    pub turned_line : (new : Story) (next : Seat) → drop next.line steps ≡ left_by next.at s (drop (k + 1) steps) → next.line ≤ length steps → Called old new caller r (phase_of a) s mid next.said.items next.at → Turned old new caller r steps seat next
    turned_line new next is inside c =
        let moves = subst (λ (z : List Step). Moves old new caller r (phase_of a) z mid next.said.items (phase_of next.at) (left_by next.at s (drop (k + 1) steps))) (sym here) (c.moves (drop (k + 1) steps)) in
        let placed = subst (λ (z : List Step). Moves old new caller r (phase_of a) (drop k steps) mid next.said.items (phase_of next.at) z) (sym is) moves in
        record {
          moves = moves_behind old new caller r (phase_of seat.at) (phase_of a) (phase_of next.at) (drop seat.line steps) (drop k steps) (drop next.line steps) seat.said.items mid next.said.items quiet placed;
          pin = c.pin;
          within = inside;
        }

-- ---- the end of the lines

-- no line is left
pub none_left : (lines : List ScriptLine) (k : ℕ) → k ≡ length lines → drop k (map (λ (l : ScriptLine). l.step) lines) ≡ []
none_left lines k is = drop-map (λ (l : ScriptLine). l.step) k lines ∙ ap (map (λ (l : ScriptLine). l.step)) (drop_all k lines (omega (arith, is)))

-- what came at the end came where no line is left
pub comes_at_end : (old new : Story) (caller : ℕ) (r : Bool) (phase : Phase) (lines : List Step) (before text : List ℕ) (o : Option At) → lines ≡ [] → ComesThere old new caller r phase [] before text o → ComesThere old new caller r phase lines before text o
comes_at_end old new caller r phase lines before text o none c = subst (λ (z : List Step). ComesThere old new caller r phase z before text o) (sym none) c

-- no call of the next line was made
module _ (old : Story) (caller : ℕ) (steps : List Step) (seat : Seat) (legal : Legal old.opening old.events) (mine : IsAt old caller seat.at) (mid : List ℕ) (a : At) (k : ℕ)
    (passed : HasPassed seat.at steps seat.line seat.said.items mid a k) (r : Bool) (s : Step) (less : k < length steps) (here : drop k steps ≡ s ∷ drop (k + 1) steps) where
  pub none_line : (new : Story) (text : List ℕ) (o : Option At) → ((next : At) → o ≡ Some next → ⊥) → Comes old new caller r (phase_of a) s mid text o → IsStuck old r (phase_of seat.at) (drop seat.line steps)
  none_line new text None none c = stuck_line old caller steps seat legal mine mid a k passed r s less here c
  none_line new text (Some next) none c = absurd (none next refl)
