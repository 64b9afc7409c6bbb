-- What a caller says is in the report, so it is no longer than that.
use Rattle.std.proofs.Common.{◌≡◌, ◌∙◌, ℕ, zero, suc, ◌+◌, ◌-◌, ◌≤◌, ◌<◌, List, [], ◌∷◌, ◌++◌, length, refl, ap, sym, subst, arith, length-append, append_assoc, append-nil}
use Rattle.std.specs.Prelude.{codes, decimal, drop, set, slice_index_or}
use Rattle.std.specs.List.{All}
use Rattle.netlist_schema.specs.Design.{Design}
use Rattle.edif_spec.specs.Arranged.{canonical_text}
use Rattle.db_spec.specs.History.{Legal, version_at}
use Rattle.db_spec.specs.declared.event.Event.{Event}
use Rattle.db_core.specs.Story.{Story}
use Rattle.script_spec.specs.Report.{HasFilled, Prints, Sessions, SessionResult, head_design, report as report_of, script_texts, transcript}
use Rattle.script_spec.specs.Session.{Ending, Exchange, Nothing, Runs, Session, Word, exchanges}
use Rattle.script_spec.specs.Texts.{event_texts, line}
use Rattle.script_spec.specs.declared.script.Step.{Step}
use Rattle.script_spec.proofs.Stays.{filter_append}
use Rattle.script_run_spec.proofs.Along.{transcript-append}
use Rattle.history_check.specs.Follow.{AllStand, EndsNever, IsRestOf, IsTooLong, said_by}
use Rattle.history_check_spec.specs.Printed.{PrintsNone}
use Rattle.history_turns.specs.Moves.{SaysTooMuch}
use Rattle.history_turns.specs.Seats.{Stands, phase_of}
use Rattle.history_turns.specs.declared.seats.Seat.{Seat}

-- ---- a script's transcript in the report

-- some session of a script, with the places that were wanting, whose transcript has at most so many bytes
abbrev pub Filled : Design → List Event → ℕ → List Step → ℕ → Type 0
Filled d history caller steps most = (came : SessionResult) × Session d history caller steps came.said came.ending × HasFilled history came.ending × (length (transcript d history came.said) ≤ most)

middle_within : (a b c : List ℕ) (most : ℕ) → length ((a ++ b) ++ c) ≤ most → (length b ≤ most) × (length c ≤ most)
middle_within a b c most le =
    let whole = length-append (a ++ b) c in
    let rest = length-append a b in
    (omega (arith, le, whole, rest), omega (arith, le, whole, rest))

pub filled_at : (d : Design) (history : List Event) (most first : ℕ) (scripts : List (List Step)) (results : List SessionResult) → Sessions d history first scripts results → All (λ (c : SessionResult). HasFilled history c.ending) results
    → length (script_texts d history first results) ≤ most → (k : ℕ) → k < length scripts → Filled d history (first + k) (slice_index_or scripts k []) most
filled_at d history most first [] [] all filled le k less = absurd (omega (arith, less))
filled_at d history most first [] (came ∷ results) all filled le k less = absurd all
filled_at d history most first (steps ∷ scripts) [] all filled le k less = absurd all
filled_at d history most first (steps ∷ scripts) (came ∷ results) all filled le zero less =
    let same : first ≡ first + 0 = omega arith in
    let parts = middle_within (line (codes "script" ∷ decimal first ∷ [])) (transcript d history came.said) (script_texts d history (first + 1) results) most le in
    subst (λ (n : ℕ). Filled d history n steps most) same (came, all.0, filled 0 came (omega arith), parts.0)
filled_at d history most first (steps ∷ scripts) (came ∷ results) all filled le (suc k) less =
    let same : first + 1 + k ≡ first + suc k = omega arith in
    let parts = middle_within (line (codes "script" ∷ decimal first ∷ [])) (transcript d history came.said) (script_texts d history (first + 1) results) most le in
    subst (λ (n : ℕ). Filled d history n (slice_index_or scripts k []) most) same
    (filled_at d history most (first + 1) scripts results all.1 (λ j c small. filled (suc j) c (omega (arith, small))) parts.1 k (omega (arith, less)))

-- the transcripts are a part of the report
scripts_within : (d : Design) (history : List Event) (results : List SessionResult) → length (script_texts d history 0 results) ≤ length (report_of d history results)
scripts_within d history results =
    let events = event_texts (head_design d history) 0 history in
    let scripts = script_texts d history 0 results in
    let front = line (codes "history" ∷ []) ++ events in
    let head = line (codes "design" ∷ []) in
    let a = length-append ((front ++ scripts) ++ head) (canonical_text (head_design d history)) in
    let b = length-append (front ++ scripts) head in
    let c = length-append front scripts in
    omega (arith, a, b, c)

-- a script of a report that is printed
pub printed_at : (d : Design) (history : List Event) (scripts : List (List Step)) (text : List ℕ) → Prints d scripts text history → (most : ℕ) → length text ≤ most → (k : ℕ) → k < length scripts
    → Filled d history k (slice_index_or scripts k []) most
printed_at d history scripts text prints most le k less =
    let within = scripts_within d history prints.results in
    let whole : length text ≡ length (report_of d history prints.results) = ap length prints.printed in
    let same : 0 + k ≡ k = omega arith in
    subst (λ (n : ℕ). Filled d history n (slice_index_or scripts k []) most) same
    (filled_at d history most 0 scripts prints.results prints.fit prints.filled (omega (arith, le, within, whole)) k less)

-- ---- a caller that says too much

-- each session that goes on from there says more than so many bytes
pub said_long : (story : Story) (caller : ℕ) (steps : List Step) (seat : Seat) (stands : Stands story caller steps seat) (most : ℕ)
    → SaysTooMuch story (phase_of seat.at) (drop seat.line steps) seat.said.items most → (more : List Event) → Legal story.opening (story.events ++ more) → (said : List Word) (ending : Ending)
    → Session story.opening (story.events ++ more) caller steps said ending → most < length (transcript story.opening (story.events ++ more) said)
said_long story caller steps seat stands most much more legal said ending session =
    let history = story.events ++ more in
    let own = filter_append caller story.events more in
    let runs = subst (λ (z : List Exchange). Runs (version_at story.opening history) Nothing steps z said ending) own session in
    let first = (stands.leads more).back (exchanges caller more) said ending runs in
    let second = (much.leads more).back (exchanges caller more) first.0 ending first.2 in
    let whole = transcript story.opening history in
    let text : whole said ≡ (seat.said.items ++ whole much.words) ++ whole second.0 =
    ap whole (first.1 ∙ ap (λ (z : List Word). stands.said ++ z) second.1)
    ∙ transcript-append story.opening history stands.said (much.words ++ second.0)
    ∙ ap (λ (z : List ℕ). whole stands.said ++ z) (transcript-append story.opening history much.words second.0)
    ∙ sym (append_assoc (whole stands.said) (whole much.words) (whole second.0))
    ∙ ap (λ (z : List ℕ). (z ++ whole much.words) ++ whole second.0) (sym (stands.written more legal)) in
    let long = much.long more legal in
    let parts = length-append (seat.said.items ++ whole much.words) (whole second.0) in
    let same : length (whole said) ≡ length ((seat.said.items ++ whole much.words) ++ whole second.0) = ap length text in
    omega (arith, long, parts, same)

-- so no session ends with so few
pub ends_too_much : (story : Story) (caller : ℕ) (steps : List Step) (seat : Seat) (stands : Stands story caller steps seat) (most : ℕ) → Legal story.opening story.events
    → SaysTooMuch story (phase_of seat.at) (drop seat.line steps) seat.said.items most → EndsNever story caller steps most
ends_too_much story caller steps seat stands most legal much said ending session filled small =
    let long = subst (λ (z : List Event). Legal story.opening z → Session story.opening z caller steps said ending → most < length (transcript story.opening z said)) (append-nil story.events)
    (λ l s. said_long story caller steps seat stands most much [] l said ending s) legal session in
    omega (arith, long, small)

-- ---- what all callers say

module _ (story : Story) (more : List Event) (legal : Legal story.opening (story.events ++ more)) where
  abbrev whole : List Event
  whole = story.events ++ more

  -- what a caller has said begins its transcript
  said_within : (caller : ℕ) (steps : List Step) (seat : Seat) → Stands story caller steps seat → (said : List Word) (ending : Ending) → Session story.opening whole caller steps said ending
      → length seat.said.items ≤ length (transcript story.opening whole said)
  said_within caller steps seat stands said ending session =
      let own = filter_append caller story.events more in
      let runs = subst (λ (z : List Exchange). Runs (version_at story.opening whole) Nothing steps z said ending) own session in
      let first = (stands.leads more).back (exchanges caller more) said ending runs in
      let text : transcript story.opening whole said ≡ seat.said.items ++ transcript story.opening whole first.0 =
      ap (transcript story.opening whole) first.1 ∙ transcript-append story.opening whole stands.said first.0
      ∙ ap (λ (z : List ℕ). z ++ transcript story.opening whole first.0) (sym (stands.written more legal)) in
      let parts = length-append seat.said.items (transcript story.opening whole first.0) in
      let same : length (transcript story.opening whole said) ≡ length (seat.said.items ++ transcript story.opening whole first.0) = ap length text in
      omega (arith, parts, same)

  -- one transcript and those behind it are a text
  parts_within : (first : ℕ) (came : SessionResult) (results : List SessionResult) (a b : ℕ) → a ≤ length (transcript story.opening whole came.said) → b ≤ length (script_texts story.opening whole (first + 1) results)
      → a + b ≤ length (script_texts story.opening whole first (came ∷ results))
  parts_within first came results a b one rest =
      let head = line (codes "script" ∷ decimal first ∷ []) in
      let text = transcript story.opening whole came.said in
      let x = length-append (head ++ text) (script_texts story.opening whole (first + 1) results) in
      let y = length-append head text in
      omega (arith, x, y, one, rest)

  abbrev Each : ℕ → List (List Step) → List Seat → Type 0
  Each first scripts seats = (k : ℕ) (d : Seat) → k < length scripts → Stands story (first + k) (slice_index_or scripts k []) (slice_index_or seats k d)

  each_first : (first : ℕ) (steps : List Step) (scripts : List (List Step)) (seat : Seat) (seats : List Seat) → Each first (steps ∷ scripts) (seat ∷ seats) → Stands story first steps seat
  each_first first steps scripts seat seats each =
      let same : first + 0 ≡ first = omega arith in subst (λ (n : ℕ). Stands story n steps seat) same (each 0 seat (omega arith))

  each_next : (first : ℕ) (steps : List Step) (scripts : List (List Step)) (seat : Seat) (seats : List Seat) → Each first (steps ∷ scripts) (seat ∷ seats) → Each (first + 1) scripts seats
  each_next first steps scripts seat seats each k d less =
      let same : first + suc k ≡ first + 1 + k = omega arith in
      subst (λ (n : ℕ). Stands story n (slice_index_or scripts k []) (slice_index_or seats k d)) same (each (suc k) d (omega (arith, less)))

  -- all that was said is in the transcripts
  all_within : (first : ℕ) (scripts : List (List Step)) (results : List SessionResult) (seats : List Seat) → Sessions story.opening whole first scripts results → length seats ≡ length scripts → Each first scripts seats
      → said_by seats ≤ length (script_texts story.opening whole first results)
  all_within first [] [] [] all many each = let none : said_by [] ≡ 0 = refl in omega (arith, none)
  all_within first [] [] (seat ∷ seats) all many each = absurd (omega (arith, many))
  all_within first [] (came ∷ results) seats all many each = absurd all
  all_within first (steps ∷ scripts) [] seats all many each = absurd all
  all_within first (steps ∷ scripts) (came ∷ results) [] all many each = absurd (omega (arith, many))
  all_within first (steps ∷ scripts) (came ∷ results) (seat ∷ seats) all many each =
      parts_within first came results (length seat.said.items) (said_by seats) (said_within first steps seat (each_first first steps scripts seat seats each) came.said came.ending all.0)
      (all_within (first + 1) scripts results seats all.1 (omega (arith, many)) (each_next first steps scripts seat seats each))

  module _ (fresh : Seat) (empty : fresh.said.items ≡ []) (x : ℕ) where
    -- what one caller says more than it has said is in the transcripts too
    room_within : (first : ℕ) (scripts : List (List Step)) (results : List SessionResult) (seats : List Seat) (c : ℕ) → Sessions story.opening whole first scripts results → length seats ≡ length scripts → Each first scripts seats
        → c < length scripts → ((said : List Word) (ending : Ending) → Session story.opening whole (first + c) (slice_index_or scripts c []) said ending → x ≤ length (transcript story.opening whole said))
        → x + said_by (set seats c fresh) ≤ length (script_texts story.opening whole first results)
    room_within first [] results seats c all many each less long = absurd (omega (arith, less))
    room_within first (steps ∷ scripts) [] seats c all many each less long = absurd all
    room_within first (steps ∷ scripts) (came ∷ results) [] c all many each less long = absurd (omega (arith, many))
    room_within first (steps ∷ scripts) (came ∷ results) (seat ∷ seats) zero all many each less long =
        let same : first + 0 ≡ first = omega arith in
        let own = long came.said came.ending (subst (λ (n : ℕ). Session story.opening whole n steps came.said came.ending) (sym same) all.0) in
        let none : length fresh.said.items ≡ 0 = ap length empty in
        let le = parts_within first came results x (said_by seats) own (all_within (first + 1) scripts results seats all.1 (omega (arith, many)) (each_next first steps scripts seat seats each)) in
        let said : said_by (set (seat ∷ seats) zero fresh) ≡ length fresh.said.items + said_by seats = refl in
        omega (arith, le, none, said)
    room_within first (steps ∷ scripts) (came ∷ results) (seat ∷ seats) (suc c) all many each less long =
        let same : first + suc c ≡ first + 1 + c = omega arith in
        let rest = room_within (first + 1) scripts results seats c all.1 (omega (arith, many)) (each_next first steps scripts seat seats each) (omega (arith, less))
        (λ said ending session. long said ending (subst (λ (n : ℕ). Session story.opening whole n (slice_index_or scripts c []) said ending) (sym same) session)) in
        let le = parts_within first came results (length seat.said.items) (x + said_by (set seats c fresh))
        (said_within first steps seat (each_first first steps scripts seat seats each) came.said came.ending all.0) rest in
        let said : said_by (set (seat ∷ seats) (suc c) fresh) ≡ length seat.said.items + said_by (set seats c fresh) = refl in
        omega (arith, le, said)

-- and no history prints so short a report
pub too_long_prints : (old : Story) (scripts : List (List Step)) (seats : List Seat) (report rest : List ℕ) (most : ℕ) → IsRestOf old scripts report rest → AllStand old scripts seats → length report ≤ most
    → IsTooLong old scripts seats most → PrintsNone old.opening scripts report
too_long_prints old scripts seats report rest most of stand few t history prints =
    let goes = of history prints in
    let here = subst (λ (z : List Event). Prints old.opening scripts report z) goes.1 prints in
    let left = most - said_by (set seats t.caller t.fresh) in
    let same : 0 + t.caller ≡ t.caller = omega arith in
    let each : Each old goes.0 here.legal 0 scripts seats = λ k d less. let one : k ≡ 0 + k = omega arith in subst (λ (n : ℕ). Stands old n (slice_index_or scripts k []) (slice_index_or seats k d)) one (stand.each k d less) in
    let room = room_within old goes.0 here.legal t.fresh t.fresh_is (suc left) 0 scripts here.results seats t.caller here.fit stand.many each t.known
    (λ said ending session. said_long old t.caller (slice_index_or scripts t.caller []) t.seat t.stands left t.says goes.0 here.legal said ending
    (subst (λ (n : ℕ). Session old.opening (old.events ++ goes.0) n (slice_index_or scripts t.caller []) said ending) same session)) in
    let within = scripts_within old.opening (old.events ++ goes.0) here.results in
    let size : length report ≡ length (report_of old.opening (old.events ++ goes.0) here.results) = ap length here.printed in
    omega (arith, room, within, size, few)
