-- How all callers stand behind a call of one of them, and how their scripts end.
use Rattle.std.proofs.Common.{◌≡◌, ◌∙◌, ℕ, zero, suc, ◌+◌, ◌-◌, ◌≤◌, ◌<◌, List, [], ◌∷◌, ◌++◌, inl, inr, length, drop, take, get_or, set, refl, ap, sym, subst, arith, length-append, append_assoc, append-nil}
use Rattle.std.specs.Prelude.{◌↔◌, ◌⊎◌, MatchOption, Option, Some, None, Bool, true, false, IsTrue, MatchBool, codes, decimal, slice_index_or}
use Rattle.std.specs.List.{All}
use Rattle.std.proofs.lemmas.Bool.{cases_eq}
use Rattle.std.proofs.lemmas.List.{get_or-set_other, get_or_append_left, length-map, length-set}
use Rattle.std.proofs.Math.Seq.{get_or-append_seam}
use Rattle.std.proofs.lemmas.Grind.{get_or-set_at}
use Rattle.std.proofs.lemmas.List.Elements.{All-append, All-from_recursion}
use Rattle.netlist_schema.specs.Design.{Design}
use Rattle.db_spec.specs.History.{Legal}
use Rattle.db_spec.specs.declared.event.Event.{Event}
use Rattle.db_core.specs.Calls.{event_of}
use Rattle.db_core.specs.Story.{Story}
use Rattle.script_spec.specs.Headline.{CanWalk, HasWalk, SomeWalks}
use Rattle.script_spec.specs.ScriptText.{Parts, steps_of}
use Rattle.script_spec.specs.Laws.{OneReport}
use Rattle.script_spec.specs.Report.{head_design}
use Rattle.script_spec.specs.Texts.{event_text}
use Rattle.script_spec.specs.declared.script.ScriptLine.{ScriptLine}
use Rattle.script_spec.specs.declared.script.Step.{Step}
use Rattle.script_run_spec.specs.Scripts.{all_steps}
use Rattle.script_run_spec.specs.Written.{written_report}
use Rattle.script_walks.proofs.TopLemmas.{lacks_none}
use Rattle.history_check_spec.proofs.Heads.{event_head}
use Rattle.history_check.specs.Follow.{AllEnd, AllStand, CallComes, Ends, EndsNever, IsCalled, IsRestOf, IsStopped, IsTooLong, IsBehind, Reached, SomeNever, said_by}
use Rattle.history_turns.specs.Moves.{IsHalted, IsStuck, SaysTooMuch, Turned}
use Rattle.history_turns.specs.Seats.{HasPlace, HasPinnedTop, IsAt, IsOpen, Stands, phase_of}
use Rattle.report_parts.specs.Parts.{Heads, HeadsNone}
use Rattle.history_check_spec.specs.Printed.{CannotWalk, PrintsNone, PrintsOnly, PrintsSome}
use Rattle.report_parts.specs.declared.heads.Next.{Next}
use Rattle.history_turns.specs.declared.seats.Seat.{Seat}
use Rattle.history_check.proofs.Lengths.{too_long_prints}
use Rattle.history_check.proofs.Judging.{never_prints, prints_none, prints_some}
use Rattle.history_check.proofs.Replaying.{begins, begins_not, none_prints, only_these, other_prints, rest_behind}
use Rattle.history_turns.proofs.Turning.{has_top, stands_open, stands_others, stands_turned}

-- ---- scripts and their steps

-- the steps of a script in its place
pub steps_at : (scripts : List Parts) (k : ℕ) (script : Parts) → k < length scripts → script ≡ get_or scripts k script → slice_index_or (all_steps scripts) k [] ≡ steps_of script.lines
steps_at [] k script less is = absurd (omega (arith, less))
steps_at (one ∷ scripts) zero script less is = ap (λ (p : Parts). steps_of p.lines) (sym is)
steps_at (one ∷ scripts) (suc k) script less is = steps_at scripts k script (omega (arith, less)) is

pub lines_at : (scripts : List Parts) (k : ℕ) (script : Parts) (lines : List ScriptLine) → k < length scripts → script ≡ get_or scripts k script → lines ≡ script.lines → slice_index_or (all_steps scripts) k [] ≡ steps_of lines
lines_at scripts k script lines less is same = steps_at scripts k script less is ∙ ap steps_of (sym same)

pub steps_many : (scripts : List Parts) → length (all_steps scripts) ≡ length scripts
steps_many scripts = length-map scripts (λ (s : Parts). steps_of s.lines)

pub known_steps : (scripts : List Parts) (k : ℕ) → k < length scripts → k < length (all_steps scripts)
known_steps scripts k less = let long = steps_many scripts in omega (arith, less, long)

pub within_lines : (lines : List ScriptLine) (n : ℕ) → n ≤ length (steps_of lines) → n ≤ length lines
within_lines lines n le = let long = length-map lines (λ (l : ScriptLine). l.step) in omega (arith, le, long)

-- where one walks, some does
pub walk_here : (scripts : List (List Step)) (k : ℕ) → k < length scripts → HasWalk (slice_index_or scripts k []) → SomeWalks scripts
walk_here [] k less walk = absurd (omega (arith, less))
walk_here (steps ∷ scripts) zero less walk = inl walk
walk_here (steps ∷ scripts) (suc k) less walk = inr (walk_here scripts k (omega (arith, less)) walk)

-- a pin can be walked where its script walks
pub top_here : (story : Story) (scripts : List (List Step)) (k : ℕ) (steps : List Step) (seat : Seat) → Legal story.opening story.events → CanWalk story.opening scripts → k < length scripts
    → slice_index_or scripts k [] ≡ steps → IsAt story k seat.at → HasWalk steps → HasPinnedTop seat.at
top_here story scripts k steps seat legal can less is mine walk =
    has_top story k seat.at legal (can (walk_here scripts k less (subst (λ (z : List Step). HasWalk z) (sym is) walk))) mine

-- ---- the seats of a row

-- the caller's seat
pub stands_at : (story : Story) (scripts : List (List Step)) (seats : List Seat) (k : ℕ) (steps : List Step) (seat d : Seat) → AllStand story scripts seats → k < length scripts
    → slice_index_or scripts k [] ≡ steps → seat ≡ slice_index_or seats k d → Stands story k steps seat
stands_at story scripts seats k steps seat d all less is at =
    subst (λ (z : List Step). Stands story k z seat) is (subst (λ (s : Seat). Stands story k (slice_index_or scripts k []) s) (sym at) (all.each k d less))

abbrev pub reached_at : (story : Story) (k : ℕ) (steps : List Step) (seat : Seat) → Stands story k steps seat → Reached story steps k
reached_at story k steps seat s = record { phase = phase_of seat.at; lines = _; said = s.said; leads = s.leads }

-- ---- a call

module _ (old : Story) (scripts : List (List Step)) (seats : List Seat) (n : Next) (steps : List Step) (seat d : Seat) (all : AllStand old scripts seats) (known : n.caller < length scripts)
    (is : slice_index_or scripts n.caller [] ≡ steps) (at : seat ≡ slice_index_or seats n.caller d) where
  here : Stands old n.caller (slice_index_or scripts n.caller []) seat
  here = stands_at old scripts seats n.caller (slice_index_or scripts n.caller []) seat d all known refl at

  is_stopped : IsStuck old n.release (phase_of seat.at) (drop seat.line steps) → IsStopped old scripts n
  is_stopped stuck = record {
    reached = reached_at old n.caller (slice_index_or scripts n.caller []) seat here;
    stuck = subst (λ (z : List Step). IsStuck old n.release (phase_of seat.at) (drop seat.line z)) (sym is) stuck;
  }

  pub is_halted : (most left : ℕ) (fresh : Seat) (mid : List Seat) → fresh.said.items ≡ [] → mid ≡ set seats n.caller fresh → left ≡ most - said_by mid
      → IsHalted old n.release (phase_of seat.at) (drop seat.line steps) seat.said.items left → IsStopped old scripts n ⊎ IsTooLong old scripts seats most
  is_halted most left fresh mid empty put is_left (inl stuck) = inl (is_stopped stuck)
  is_halted most left fresh mid empty put is_left (inr much) = inr (record {
    caller = n.caller;
    known = known;
    seat = seat;
    stands = here;
    fresh = fresh;
    fresh_is = empty;
    says = subst (λ (z : ℕ). SaysTooMuch old (phase_of seat.at) (drop seat.line (slice_index_or scripts n.caller [])) seat.said.items z) (is_left ∙ ap (λ (z : List Seat). most - said_by z) put)
        (subst (λ (z : List Step). SaysTooMuch old (phase_of seat.at) (drop seat.line z) seat.said.items left) (sym is) much);
  })

  module _ (new : Story) (next fresh : Seat) (legal : Legal old.opening old.events) (turned_so : Turned old new n.caller n.release steps seat next) where
    turned : Turned old new n.caller n.release (slice_index_or scripts n.caller []) seat next
    turned = subst (λ (z : List Step). Turned old new n.caller n.release z seat next) (sym is) turned_so

    abbrev event : Event
    event = event_of n.caller turned.moves.call turned.moves.answer

    abbrev after : List Seat
    after = set (set seats n.caller fresh) n.caller next

    less : n.caller < length (set seats n.caller fresh)
    less = let long = length-set seats n.caller fresh in omega (arith, known, all.many, long)

    many : length after ≡ length scripts
    many = length-set (set seats n.caller fresh) n.caller next ∙ length-set seats n.caller fresh ∙ all.many

    -- the caller's seat is the new one, and the others stay
    own_seat : (k : ℕ) (d : Seat) → k ≡ n.caller → slice_index_or after k d ≡ next
    own_seat k d same = get_or-set_at (set seats n.caller fresh) n.caller k next d same less

    other_seat : (k : ℕ) (d : Seat) → (k ≡ n.caller → ⊥) → slice_index_or after k d ≡ slice_index_or seats k d
    other_seat k d other = get_or-set_other (set seats n.caller fresh) n.caller k next d other ∙ get_or-set_other seats n.caller k fresh d other

    own_stands : (k : ℕ) (d : Seat) → k ≡ n.caller → Stands new k (slice_index_or scripts k []) (slice_index_or after k d)
    own_stands k d same =
        subst (λ (s : Seat). Stands new k (slice_index_or scripts k []) s) (sym (own_seat k d same))
        (subst (λ (m : ℕ). Stands new m (slice_index_or scripts m []) next) (sym same)
        (stands_turned old new n.caller n.release (slice_index_or scripts n.caller []) seat next here turned))

    other_stands : (k : ℕ) (d : Seat) → k < length scripts → (k ≡ n.caller → ⊥) → Stands new k (slice_index_or scripts k []) (slice_index_or after k d)
    other_stands k d low other =
        subst (λ (s : Seat). Stands new k (slice_index_or scripts k []) s) (sym (other_seat k d other))
        (stands_others old new k (slice_index_or scripts k []) (slice_index_or seats k d) event legal (λ same. other (sym same)) turned.moves.adds (all.each k d low))

    each : (k : ℕ) (d : Seat) → k < length scripts → Stands new k (slice_index_or scripts k []) (slice_index_or after k d)
    each k d low = elim (cases_eq k n.caller) [
      | inl same ↦ own_stands k d same
      | inr other ↦ other_stands k d low other
    ]

    callers : All (λ (e : Event). e.caller < length scripts) new.events
    callers =
        subst (λ (es : List Event). All (λ (e : Event). e.caller < length scripts) es) (sym turned.moves.adds.events)
        (All-append (λ (e : Event). e.caller < length scripts) old.events (event ∷ []) all.callers
        (All-from_recursion (λ (e : Event). e.caller < length scripts) (event ∷ []) (known, tt)))

    pub is_called : IsCalled old new scripts n after
    is_called = record {
      reached = reached_at old n.caller (slice_index_or scripts n.caller []) seat here;
      call = turned.moves.call;
      answer = turned.moves.answer;
      wanted = turned.moves.wanted;
      adds = turned.moves.adds;
      stand = record { many = many; each = each; callers = callers };
    }

    pub is_called_so : (mid now : List Seat) → mid ≡ set seats n.caller fresh → now ≡ set mid n.caller next → IsCalled old new scripts n now
    is_called_so mid now first second =
        subst (λ (z : List Seat). IsCalled old new scripts n z) (sym (second ∙ ap (λ (z : List Seat). set z n.caller next) first)) is_called

-- ---- the start

pub all_open : (d : Design) (scripts : List (List Step)) (seats : List Seat) → length seats ≡ length scripts → All IsOpen seats → AllStand (record { opening = d; events = [] }) scripts seats
all_open d scripts seats many fresh = record {
  many = many;
  each = λ k e less. stands_open d k (slice_index_or scripts k []) (slice_index_or seats k e) (fresh k e (omega (arith, less, many)));
  callers = λ k e less. absurd (omega (arith, less));
}

-- the text of an event is not empty
behind_word : (a b : List ℕ) (c : ℕ) → 0 < length (a ++ c ∷ b)
behind_word a b c = let long = length-append a (c ∷ b) in omega (arith, long)

event_long : (d : Design) (number : ℕ) (event : Event) → 0 < length (event_text d number event)
event_long d number event =
    subst (λ (z : List ℕ). 0 < length z) (append-nil (event_text d number event))
    (subst (λ (z : List ℕ). 0 < length z) (sym (event_head d number event [])) (behind_word (decimal number) _ 32))

pub shorter_behind : (d : Design) (number : ℕ) (event : Event) (rest more : List ℕ) → rest ≡ event_text d number event ++ more → length more < length rest
shorter_behind d number event rest more is =
    let some = event_long d number event in
    let whole = length-append (event_text d number event) more in
    let same : length rest ≡ length (event_text d number event ++ more) = ap length is in
    omega (arith, some, whole, same)

-- ---- the ends

-- the k-th script ends so
abbrev pub Finishes : ℕ → List Step → Seat → List ℕ → Type 0
Finishes events steps seat text = (story : Story) (caller : ℕ) → Stands story caller steps seat → events ≡ length story.events → Legal story.opening story.events → Ends story caller steps text

pub all_end : (story : Story) (first : ℕ) (scripts : List (List Step)) (texts : List (List ℕ)) → length texts ≡ length scripts
    → ((k : ℕ) (t : List ℕ) → k < length scripts → Ends story (first + k) (slice_index_or scripts k []) (slice_index_or texts k t)) → AllEnd story first scripts texts
all_end story first [] [] many each = tt
all_end story first [] (text ∷ texts) many each = absurd (omega (arith, many))
all_end story first (steps ∷ scripts) [] many each = absurd (omega (arith, many))
all_end story first (steps ∷ scripts) (text ∷ texts) many each =
    let here : first + 0 ≡ first = omega arith in
    let on : (k : ℕ) → first + suc k ≡ first + 1 + k = λ k. omega arith in (
      subst (λ (n : ℕ). Ends story n steps text) here (each 0 text (omega arith)),
      all_end story (first + 1) scripts texts (omega (arith, many)) (λ k t low. subst (λ (n : ℕ). Ends story n (slice_index_or scripts k []) (slice_index_or texts k t)) (on k) (each (suc k) t (omega (arith, low)))),
    )

-- a row that is as long as another has an element where that has one
some_of : (seats : List Seat) (k : ℕ) → k < length seats → Seat
some_of [] k less = absurd (omega (arith, less))
some_of (seat ∷ seats) k less = seat

pub ends_all : (story : Story) (scripts : List (List Step)) (seats : List Seat) (texts : List (List ℕ)) (events : ℕ) → AllStand story scripts seats → events ≡ length story.events → Legal story.opening story.events
    → length texts ≡ length seats
    → ((k : ℕ) (d : Seat) (t : List ℕ) → k < length seats → Finishes events (slice_index_or scripts k []) (slice_index_or seats k d) (slice_index_or texts k t))
    → AllEnd story 0 scripts texts
ends_all story scripts seats texts events all many legal long each =
    all_end story 0 scripts texts (long ∙ all.many) (λ k t low.
    let there : k < length seats = omega (arith, low, all.many) in
    let d = some_of seats k there in
    let same : k ≡ 0 + k = omega arith in
    subst (λ (n : ℕ). Ends story n (slice_index_or scripts k []) (slice_index_or texts k t)) same (each k d t there story k (all.each k d low) many legal))

pub some_never : (story : Story) (scripts : List (List Step)) (most k : ℕ) (steps : List Step) → k < length scripts
    → slice_index_or scripts k [] ≡ steps → EndsNever story k steps most → SomeNever story scripts most
some_never story scripts most k steps less is never = record {
  caller = k;
  known = less;
  never = subst (λ (z : List Step). EndsNever story k z most) (sym is) never;
}

-- each seat has its place in its script
pub place_here : (story : Story) (scripts : List (List Step)) (seats : List Seat) → AllStand story scripts seats → Legal story.opening story.events → CanWalk story.opening scripts
    → (k : ℕ) (d : Seat) → k < length scripts → HasPlace (slice_index_or scripts k []) (slice_index_or seats k d)
place_here story scripts seats all legal can k d less =
    let s = all.each k d less in
    record { within = s.within; top = top_here story scripts k (slice_index_or scripts k []) (slice_index_or seats k d) legal can less refl s.pin }

-- one script more ends so
pub finish_one : (events : ℕ) (scripts : List (List Step)) (seats : List Seat) (texts : List (List ℕ)) (steps : List Step) (seat : Seat) (text : List ℕ) → length texts ≡ length seats
    → slice_index_or scripts (length texts) [] ≡ steps → Finishes events steps seat text
    → ((k : ℕ) (d : Seat) (t : List ℕ) → k < length seats → Finishes events (slice_index_or scripts k []) (slice_index_or seats k d) (slice_index_or texts k t))
    → (k : ℕ) (d : Seat) (t : List ℕ) → k < length (seats ++ seat ∷ []) → Finishes events (slice_index_or scripts k []) (slice_index_or (seats ++ seat ∷ []) k d) (slice_index_or (texts ++ text ∷ []) k t)
finish_one events scripts seats texts steps seat text many is last before k d t less =
    let long = length-append seats (seat ∷ []) in
    elim (cases_eq k (length seats)) [
      | inl same ↦
          let at : k ≡ length texts = same ∙ sym many in
          let seat_is : slice_index_or (seats ++ seat ∷ []) k d ≡ seat = ap (λ (j : ℕ). slice_index_or (seats ++ seat ∷ []) j d) same ∙ get_or-append_seam seats seat [] d in
          let text_is : slice_index_or (texts ++ text ∷ []) k t ≡ text = ap (λ (j : ℕ). slice_index_or (texts ++ text ∷ []) j t) at ∙ get_or-append_seam texts text [] t in
          let steps_is : slice_index_or scripts k [] ≡ steps = ap (λ (j : ℕ). slice_index_or scripts j []) at ∙ is in
          subst (λ (z : List Step). Finishes events z (slice_index_or (seats ++ seat ∷ []) k d) (slice_index_or (texts ++ text ∷ []) k t)) (sym steps_is)
          (subst (λ (z : Seat). Finishes events steps z (slice_index_or (texts ++ text ∷ []) k t)) (sym seat_is)
          (subst (λ (z : List ℕ). Finishes events steps seat z) (sym text_is) last))
      | inr other ↦
          let low : k < length seats = omega (arith, less, long, other) in
          let there : k < length texts = omega (arith, low, many) in
          subst (λ (z : Seat). Finishes events (slice_index_or scripts k []) z (slice_index_or (texts ++ text ∷ []) k t)) (sym (get_or_append_left seats (seat ∷ []) d k low))
          (subst (λ (z : List ℕ). Finishes events (slice_index_or scripts k []) (slice_index_or seats k d) z) (sym (get_or_append_left texts (text ∷ []) t k there)) (before k d t low))
    ]

-- ---- what callers have said

said_next : (seats : List Seat) (k : ℕ) (seat : Seat) → k < length seats → seat ≡ get_or seats k seat → said_by (take (suc k) seats) ≡ said_by (take k seats) + length seat.said.items
said_next [] k seat less is = absurd (omega (arith, less))
said_next (one ∷ seats) zero seat less is =
    let same : seat ≡ one = is in
    let long = ap (λ (s : Seat). length s.said.items) same in
    let first : said_by (take (suc zero) (one ∷ seats)) ≡ length one.said.items + 0 = refl in
    let none : said_by (take zero (one ∷ seats)) ≡ 0 = refl in
    omega (arith, long, first, none)
said_next (one ∷ seats) (suc k) seat less is =
    let rest = said_next seats k seat (omega (arith, less)) is in
    let next : said_by (take (suc (suc k)) (one ∷ seats)) ≡ length one.said.items + said_by (take (suc k) seats) = refl in
    let here : said_by (take (suc k) (one ∷ seats)) ≡ length one.said.items + said_by (take k seats) = refl in
    omega (arith, rest, next, here)

take_all : (seats : List Seat) (k : ℕ) → length seats ≤ k → take k seats ≡ seats
take_all [] zero le = refl
take_all [] (suc k) le = refl
take_all (one ∷ seats) zero le = absurd (omega (arith, le))
take_all (one ∷ seats) (suc k) le = ap (λ (z : List Seat). one ∷ z) (take_all seats k (omega (arith, le)))

-- ---- the replay

module _ (core : Story) (scripts : List Parts) (report rest : List ℕ) (few : length scripts ≤ 64) (of : IsRestOf core (all_steps scripts) report rest) (number callers : ℕ) (number_is : number ≡ length core.events)
    (callers_are : callers ≡ length scripts) where
  few_steps : length (all_steps scripts) ≤ 64
  few_steps = let long = steps_many scripts in omega (arith, few, long)

  callers_here : callers ≡ length (all_steps scripts)
  callers_here = callers_are ∙ sym (steps_many scripts)

  pub only_so : HeadsNone rest number callers → PrintsOnly core.opening (all_steps scripts) report core.events
  only_so none = only_these core (all_steps scripts) report rest few_steps of (subst (λ (n : ℕ). HeadsNone rest n (length (all_steps scripts))) number_is (subst (λ (n : ℕ). HeadsNone rest number n) callers_here none))

  module _ (n : Next) (heads_so : Heads rest number callers n) where
    heads : Heads rest (length core.events) (length (all_steps scripts)) n
    heads = subst (λ (m : ℕ). Heads rest m (length (all_steps scripts)) n) number_is (subst (λ (m : ℕ). Heads rest number m n) callers_here heads_so)

    pub none_so : (seats : List Seat) (most : ℕ) → AllStand core (all_steps scripts) seats → length report ≤ most → IsStopped core (all_steps scripts) n ⊎ IsTooLong core (all_steps scripts) seats most
        → PrintsNone core.opening (all_steps scripts) report
    none_so seats most stand short (inl s) = none_prints core (all_steps scripts) report rest few_steps of n heads s
    none_so seats most stand short (inr t) = too_long_prints core (all_steps scripts) seats report rest most of stand short t

    module _ (new : Story) (seats : List Seat) (called : IsCalled core new (all_steps scripts) n seats) (legal : Legal core.opening core.events) where
      abbrev event_here : Event
      event_here = event_of n.caller called.call called.answer

      pub other_so : ((more : List ℕ) → ¬ (rest ≡ event_text (head_design new.opening new.events) (length core.events) event_here ++ more)) → PrintsNone new.opening (all_steps scripts) report
      other_so none = other_prints core (all_steps scripts) report rest few_steps of n heads new seats called legal none

      pub rest_so : (more : List ℕ) → rest ≡ event_text (head_design new.opening new.events) (length core.events) event_here ++ more → IsRestOf new (all_steps scripts) report more
      rest_so more is = rest_behind core (all_steps scripts) report rest few_steps of n heads new seats called legal more is

-- ---- a database before its first event

pub at_start : (core : Story) → core.events ≡ [] → record { opening = core.opening; events = [] } ≡ core
at_start core none = λ i. record { opening = core.opening; events = sym none i }

pub open_here : (core : Story) (scripts : List Parts) (seats : List Seat) → core.events ≡ [] → length seats ≡ length scripts → All IsOpen seats → AllStand core (all_steps scripts) seats
open_here core scripts seats none many fresh =
    subst (λ (s : Story). AllStand s (all_steps scripts) seats) (at_start core none) (all_open core.opening (all_steps scripts) seats (many ∙ sym (steps_many scripts)) fresh)

pub behind_here : (core : Story) (report rest : List ℕ) → core.events ≡ [] → report ≡ codes "history\n" ++ rest → IsBehind core report rest
behind_here core report rest none is = subst (λ (s : Story). IsBehind s report rest) (at_start core none) is

pub begins_here : (core : Story) (scripts : List (List Step)) (report rest : List ℕ) → core.events ≡ [] → report ≡ codes "history\n" ++ rest → IsRestOf core scripts report rest
begins_here core scripts report rest none is = subst (λ (s : Story). IsRestOf s scripts report rest) (at_start core none) (begins core.opening scripts report rest is)

-- ---- the verdict

-- of the same opening design
pub none_of : (d e : Design) (scripts : List (List Step)) (report : List ℕ) → e ≡ d → PrintsNone e scripts report → PrintsNone d scripts report
none_of d e scripts report same none = subst (λ (z : Design). PrintsNone z scripts report) same none

pub never_prints_so : (story : Story) (scripts : List (List Step)) (report : List ℕ) (most : ℕ) → length report ≤ most → SomeNever story scripts most → PrintsOnly story.opening scripts report story.events → PrintsNone story.opening scripts report
never_prints_so story scripts report most short never only = never_prints story scripts report most short never only

-- the text is compared with the report of the only history that can print it
pub compared : OneReport → (story : Story) (d : Design) (scripts : List (List Step)) (texts : List (List ℕ)) (report : List ℕ) → story.opening ≡ d → Legal story.opening story.events
    → All (λ (event : Event). event.caller < length scripts) story.events → AllEnd story 0 scripts texts → PrintsOnly story.opening scripts report story.events
    → (same : Bool) → (IsTrue same ↔ (report ≡ written_report (head_design story.opening story.events) story.events texts)) → MatchBool same (PrintsSome d scripts report) (PrintsNone d scripts report)
compared one story d scripts texts report of legal callers all only true is = subst (λ (z : Design). PrintsSome z scripts report) of (prints_some story scripts texts report legal callers all only (is.0 refl))
compared one story d scripts texts report of legal callers all only false is =
    none_of d story.opening scripts report of (prints_none one story scripts texts report legal callers all only (λ e. absurd (cc (is.1 e))))

-- what was printed into memory
pub ends_of : {X : Type 0} (now : X → List (List ℕ)) (story : Story) (scripts : List (List Step)) (most : ℕ) (o : Option X) (x : X) → o ≡ Some x
    → MatchOption o (SomeNever story scripts most) (λ t. AllEnd story 0 scripts (now t)) → AllEnd story 0 scripts (now x)
ends_of now story scripts most None x is m = absurd (cc is)
ends_of {X} now story scripts most (Some y) x is m = let same : y ≡ x = cc is in subst (λ (z : X). AllEnd story 0 scripts (now z)) same m

pub never_of : {X : Type 0} (now : X → List (List ℕ)) (story : Story) (scripts : List (List Step)) (most : ℕ) (o : Option X) → o ≡ None
    → MatchOption o (SomeNever story scripts most) (λ t. AllEnd story 0 scripts (now t)) → SomeNever story scripts most
never_of now story scripts most None is m = m
never_of now story scripts most (Some y) is m = absurd (cc is)

pub at_place : (scripts : List Parts) (place : ℕ) (texts : List (List ℕ)) (script : Parts) → place ≡ length texts → script ≡ get_or scripts place script → script ≡ get_or scripts (length texts) script
at_place scripts place texts script same is = subst (λ (k : ℕ). script ≡ get_or scripts k script) same is

-- ---- the ends of all scripts, one after the other

abbrev pub Finished : ℕ → ℕ → List Step → Seat → Option (List ℕ) → Type 0
Finished most events steps seat o = (story : Story) (caller : ℕ) → Stands story caller steps seat → events ≡ length story.events → Legal story.opening story.events
    → MatchOption o (EndsNever story caller steps most) (Ends story caller steps)

finishes_so : (most events : ℕ) (steps : List Step) (seat : Seat) (o : Option (List ℕ)) (text : List ℕ) → o ≡ Some text → Finished most events steps seat o → Finishes events steps seat text
finishes_so most events steps seat o text is f = subst (λ (z : Option (List ℕ)). Finished most events steps seat z) is f

never_so : (most events : ℕ) (steps : List Step) (seat : Seat) (o : Option (List ℕ)) → o ≡ None → Finished most events steps seat o → Finished most events steps seat None
never_so most events steps seat o is f = subst (λ (z : Option (List ℕ)). Finished most events steps seat z) is f

module _ (scripts : List Parts) (all before rest after : List Seat) (seat : Seat) (texts : List (List ℕ)) (whole : all ≡ before ++ rest) (first : rest ≡ seat ∷ after) (count : length texts ≡ length before) (many : length all ≡ length scripts) where
  all_is : all ≡ before ++ seat ∷ after
  all_is = whole ∙ ap (λ (z : List Seat). before ++ z) first

  pub seat_known : length texts < length scripts
  seat_known = let long = length-append before (seat ∷ after) in let same : length all ≡ length (before ++ seat ∷ after) = ap length all_is in omega (arith, long, same, count, many)

  pub seat_here : (d : Seat) → slice_index_or all (length texts) d ≡ seat
  seat_here d = ap (λ (z : List Seat). slice_index_or z (length texts) d) all_is ∙ ap (λ (k : ℕ). slice_index_or (before ++ seat ∷ after) k d) count ∙ get_or-append_seam before seat after d

  module _ (script : Parts) (lines : List ScriptLine) (at : script ≡ get_or scripts (length texts) script) (same : lines ≡ script.lines) where
    steps_here : slice_index_or (all_steps scripts) (length texts) [] ≡ steps_of lines
    steps_here = lines_at scripts (length texts) script lines seat_known at same

    pub place_so : ((k : ℕ) (d : Seat) → k < length scripts → HasPlace (slice_index_or (all_steps scripts) k []) (slice_index_or all k d)) → HasPlace (steps_of lines) seat
    place_so each = subst (λ (z : List Step). HasPlace z seat) steps_here (subst (λ (s : Seat). HasPlace (slice_index_or (all_steps scripts) (length texts) []) s) (seat_here seat) (each (length texts) seat seat_known))

    pub never_one : (most events : ℕ) (o : Option (List ℕ)) → o ≡ None → Finished most events (steps_of lines) seat o → (story : Story) → AllStand story (all_steps scripts) all → events ≡ length story.events
        → Legal story.opening story.events → SomeNever story (all_steps scripts) most
    never_one most events o is f story stand so_many legal =
        let low = known_steps scripts (length texts) seat_known in
        let here = stands_at story (all_steps scripts) all (length texts) (steps_of lines) seat seat stand low steps_here (sym (seat_here seat)) in
        some_never story (all_steps scripts) most (length texts) (steps_of lines) low steps_here (never_so most events (steps_of lines) seat o is f story (length texts) here so_many legal)

    pub rest_next : all ≡ (before ++ seat ∷ []) ++ after
    rest_next = all_is ∙ sym (append_assoc before (seat ∷ []) after)

    pub count_next : (text : List ℕ) (now : List (List ℕ)) → now ≡ texts ++ text ∷ [] → length now ≡ length (before ++ seat ∷ [])
    count_next text now is = ap length is ∙ length-append texts (text ∷ []) ∙ ap (λ (n : ℕ). n + 1) count ∙ sym (length-append before (seat ∷ []))

    pub done_next : (most events : ℕ) (o : Option (List ℕ)) (text : List ℕ) (now : List (List ℕ)) → now ≡ texts ++ text ∷ [] → o ≡ Some text → Finished most events (steps_of lines) seat o
        → ((k : ℕ) (d : Seat) (t : List ℕ) → k < length before → Finishes events (slice_index_or (all_steps scripts) k []) (slice_index_or before k d) (slice_index_or texts k t))
        → (k : ℕ) (d : Seat) (t : List ℕ) → k < length (before ++ seat ∷ []) → Finishes events (slice_index_or (all_steps scripts) k []) (slice_index_or (before ++ seat ∷ []) k d) (slice_index_or now k t)
    done_next most events o text now is some f so_far k d t less =
        subst (λ (z : List (List ℕ)). Finishes events (slice_index_or (all_steps scripts) k []) (slice_index_or (before ++ seat ∷ []) k d) (slice_index_or z k t)) (sym is)
        (finish_one events (all_steps scripts) before texts (steps_of lines) seat text count steps_here (finishes_so most events (steps_of lines) seat o text some f) so_far k d t less)

-- all have ended
pub ends_so : (scripts : List Parts) (all before rest : List Seat) (texts : List (List ℕ)) (events : ℕ) → all ≡ before ++ rest → rest ≡ [] → length texts ≡ length before
    → ((k : ℕ) (d : Seat) (t : List ℕ) → k < length before → Finishes events (slice_index_or (all_steps scripts) k []) (slice_index_or before k d) (slice_index_or texts k t))
    → (story : Story) → AllStand story (all_steps scripts) all → events ≡ length story.events → Legal story.opening story.events → AllEnd story 0 (all_steps scripts) texts
ends_so scripts all before rest texts events whole none count each story stand many legal =
    let same : all ≡ before = whole ∙ ap (λ (z : List Seat). before ++ z) none ∙ append-nil before in
    ends_all story (all_steps scripts) before texts events (subst (λ (z : List Seat). AllStand story (all_steps scripts) z) same stand) many legal count each

-- ---- the whole check

-- the text does not begin as a report
pub begins_none : {X : Type 0} (now : X → List ℕ) (d : Design) (scripts : List (List Step)) (report : List ℕ) (o : Option X) → ((x : X) → o ≡ Some x → ⊥)
    → MatchOption o ((rest : List ℕ) → ¬ (report ≡ codes "history\n" ++ rest)) (λ x. report ≡ codes "history\n" ++ now x) → PrintsNone d scripts report
begins_none now d scripts report None none is = begins_not d scripts report is
begins_none now d scripts report (Some x) none is = absurd (none x refl)

pub verdict_of : (d e : Design) (scripts : List (List Step)) (report : List ℕ) (r : Bool) → e ≡ d → MatchBool r (PrintsSome e scripts report) (PrintsNone e scripts report)
    → MatchBool r (PrintsSome d scripts report) (PrintsNone d scripts report)
verdict_of d e scripts report r same m = subst (λ (z : Design). MatchBool r (PrintsSome z scripts report) (PrintsNone z scripts report)) same m

-- ---- the exits of a replay

pub only_of : (d e : Design) (scripts : List (List Step)) (report : List ℕ) (events : List Event) → e ≡ d → PrintsOnly e scripts report events → PrintsOnly d scripts report events
only_of d e scripts report events same only = subst (λ (z : Design). PrintsOnly z scripts report events) same only

pub heads_none : (text : List ℕ) (number several : ℕ) (o : Option Next) → ((n : Next) → o ≡ Some n → ⊥) → MatchOption o (HeadsNone text number several) (Heads text number several) → HeadsNone text number several
heads_none text number several None none m = m
heads_none text number several (Some n) none m = absurd (none n refl)

pub stopped_so : (old new : Story) (scripts : List (List Step)) (n : Next) (most : ℕ) (before seats : List Seat) (made : Bool) → made ≡ false → CallComes old new scripts n most before seats made
    → IsStopped old scripts n ⊎ IsTooLong old scripts before most
stopped_so old new scripts n most before seats true is m = absurd (cc is)
stopped_so old new scripts n most before seats false is m = m

pub called_so : (old new : Story) (scripts : List (List Step)) (n : Next) (most : ℕ) (before seats : List Seat) (made : Bool) → made ≡ true → CallComes old new scripts n most before seats made → IsCalled old new scripts n seats
called_so old new scripts n most before seats true is m = m
called_so old new scripts n most before seats false is m = absurd (cc is)

pub behind_none : {X : Type 0} (now : X → List ℕ) (old new : Story) (scripts : List (List Step)) (n : Next) (seats : List Seat) (called : IsCalled old new scripts n seats) (text : List ℕ) (o : Option X)
    → ((before : List Event) (event : Event) → new.events ≡ before ++ event ∷ [] → MatchOption o ((more : List ℕ) → ¬ (text ≡ event_text (head_design new.opening new.events) (length before) event ++ more))
    (λ more. text ≡ event_text (head_design new.opening new.events) (length before) event ++ now more)) → o ≡ None
    → (more : List ℕ) → ¬ (text ≡ event_text (head_design new.opening new.events) (length old.events) (event_of n.caller called.call called.answer) ++ more)
behind_none now old new scripts n seats called text None all is = all old.events (event_of n.caller called.call called.answer) called.adds.events
behind_none now old new scripts n seats called text (Some x) all is = absurd (cc is)

pub behind_some : {X : Type 0} (now : X → List ℕ) (old new : Story) (scripts : List (List Step)) (n : Next) (seats : List Seat) (called : IsCalled old new scripts n seats) (text : List ℕ) (o : Option X) (more : X)
    → ((before : List Event) (event : Event) → new.events ≡ before ++ event ∷ [] → MatchOption o ((more : List ℕ) → ¬ (text ≡ event_text (head_design new.opening new.events) (length before) event ++ more))
    (λ more. text ≡ event_text (head_design new.opening new.events) (length before) event ++ now more)) → o ≡ Some more
    → text ≡ event_text (head_design new.opening new.events) (length old.events) (event_of n.caller called.call called.answer) ++ now more
behind_some {X} now old new scripts n seats called text o more all is =
    let event = event_of n.caller called.call called.answer in
    subst (λ (z : Option X). MatchOption z ((more : List ℕ) → ¬ (text ≡ event_text (head_design new.opening new.events) (length old.events) event ++ more))
    (λ more. text ≡ event_text (head_design new.opening new.events) (length old.events) event ++ now more)) is (all old.events event called.adds.events)

pub no_more : (seats : List Seat) → length seats ≡ 0 → seats ≡ []
no_more [] none = refl
no_more (seat ∷ seats) none = absurd (omega (arith, none))

-- ---- the verdict on a design

pub verdict_no : (d : Design) (core : Story) (scripts : List (List Step)) (report : List ℕ) (r lacks : Bool) → core ≡ record { opening = d; events = [] } → r ≡ false
    → MatchBool r (PrintsSome core.opening scripts report) (PrintsNone core.opening scripts report) → IsTrue lacks ↔ CannotWalk d scripts → lacks ≡ false → PrintsNone d scripts report × ¬ CannotWalk d scripts
verdict_no d core scripts report true lacks at is m iff has = absurd (cc is)
verdict_no d core scripts report false lacks at is m iff has = (subst (λ (s : Story). PrintsNone s.opening scripts report) at m, lacks_none d scripts lacks iff has)

pub verdict_yes : (d : Design) (core : Story) (scripts : List (List Step)) (report : List ℕ) (r lacks : Bool) → core ≡ record { opening = d; events = [] } → r ≡ true
    → MatchBool r (PrintsSome core.opening scripts report) (PrintsNone core.opening scripts report) → IsTrue lacks ↔ CannotWalk d scripts → lacks ≡ false → PrintsSome d scripts report × ¬ CannotWalk d scripts
verdict_yes d core scripts report true lacks at is m iff has = (subst (λ (s : Story). PrintsSome s.opening scripts report) at m, lacks_none d scripts lacks iff has)
verdict_yes d core scripts report false lacks at is m iff has = absurd (cc is)

-- ---- what callers leave

pub spare_start : (seats : List Seat) (most : ℕ) → most ≡ most - said_by (take zero seats)
spare_start seats most = let none : said_by (take zero seats) ≡ 0 = refl in omega (arith, none)

pub spare_next : (seats : List Seat) (k left now most said : ℕ) (seat : Seat) → k < length seats → seat ≡ get_or seats k seat → left ≡ most - said_by (take k seats) → said ≡ length seat.said.items → now ≡ left - said
    → now ≡ most - said_by (take (k + 1) seats)
spare_next seats k left now most said seat less is is_left is_said is_now =
    let one : suc k ≡ k + 1 = omega arith in
    let next = subst (λ (m : ℕ). said_by (take m seats) ≡ said_by (take k seats) + length seat.said.items) one (said_next seats k seat less is) in
    omega (arith, next, is_left, is_said, is_now)

pub spare_all : (seats : List Seat) (k left most : ℕ) → length seats ≤ k → left ≡ most - said_by (take k seats) → left ≡ most - said_by seats
spare_all seats k left most le is = is ∙ ap (λ (z : List Seat). most - said_by z) (take_all seats k le)
