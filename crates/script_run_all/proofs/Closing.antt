-- From the passes at the end to the ends of the scripts in the closed history.
use Rattle.std.proofs.Common.{◌≡◌, ◌<◌, ◌+◌, ℕ, suc, List, [], ◌∷◌, ◌++◌, ◌||◌, length, map, get_or, ap, sym, ◌∙◌, subst, refl, arith, append-nil, Bool}
use Rattle.std.specs.List.{All, list_any}
use Rattle.std.proofs.lemmas.List.{get_or-map, length-map}
use Rattle.std.specs.Prelude.{IfOk, Ok, Result}
use Rattle.netlist_schema.specs.Design.{Design}
use Rattle.netlist_pages.specs.declared.memory.NoMemory.{NoMemory}
use Rattle.db_spec.specs.declared.event.Event.{Event}
use Rattle.script_spec.specs.Headline.{Ran}
use Rattle.script_spec.specs.Session.{Told, exchanges}
use Rattle.script_spec.specs.ScriptText.{Parts, steps_of}
use Rattle.script_spec.specs.declared.script.Step.{Step}
use Rattle.turn_cell.specs.Seats.{AgreeWith, HasEachSeat, entries_of}
use Rattle.turn_cell.proofs.Rows.{has_each}
use Rattle.db_core.specs.Story.{Story}
use Rattle.db_share.specs.Passes.{Shared, Pass, IsReady, maker}
use Rattle.db_share.specs.Calls.{Closes, Opens}
use Rattle.db_share.proofs.Own.{rest_own}
use Rattle.script_run_spec.specs.Ended.{Ended, HasEnded, HaveEnded, met_full}
use Rattle.script_run_spec.specs.Scripts.{all_steps}
use Rattle.script_run_all.specs.Run.{HaveRun}
use Rattle.script_run_all.specs.Workers.{IsDone, end_of}
use Rattle.script_run_all.specs.declared.workers.Done.{Done}

-- behind what a pass has seen, where its events are all of its number, the history has none of them
quiet : (number : ℕ) (seen later own : List Event) → own ≡ entries_of maker number seen → own ≡ entries_of maker number (seen ++ later) → exchanges number later ≡ []
quiet number seen later own before after =
    let none : entries_of maker number later ≡ [] = rest_own number seen later own [] before (sym after ∙ sym (append-nil own)) in
    ap (λ (events : List Event). map (λ (event : Event). Told event.call event.answer) events) none

-- a script that was run, in the history of the closed database
has_ended : (db : Shared) (d : Design) (scripts : List (List Step)) (events : List Event) (number : ℕ) (done : Done) → db.base ≡ d → IsDone db scripts number done
    → AgreeWith maker events done.pass.number done.pass.seen done.pass.own → HasEnded d events number (get_or scripts number []) (end_of done)
has_ended db d scripts events number done base is agree =
    let later = agree.0.0 in
    let parts : events ≡ done.pass.seen ++ later = sym agree.0.1 in
    let own = subst (λ (xs : List Event). done.pass.own ≡ entries_of maker done.pass.number xs) parts agree.1 in record {
      seen = done.pass.seen;
      later = later;
      parts = parts;
      quiet = subst (λ (n : ℕ). exchanges n later ≡ []) is.mine (quiet done.pass.number done.pass.seen later done.pass.own is.ready.own own);
      ran = subst (λ (e : Design). Ran e done.pass.seen number (get_or scripts number []) (end_of done).text (end_of done).log_full) base is.ran;
    }

-- one script after the other
all_ended : (d : Design) (events : List Event) (first : ℕ) (scripts : List (List Step)) (all : List Done) → length all ≡ length scripts
    → ((k : ℕ) (x : Done) → k < length scripts → HasEnded d events (first + k) (get_or scripts k []) (end_of (get_or all k x))) → HaveEnded d events first scripts (map end_of all)
all_ended d events first [] [] same each = tt
all_ended d events first [] (done ∷ all) same each = absurd (omega (arith, same))
all_ended d events first (steps ∷ scripts) [] same each = absurd (omega (arith, same))
all_ended d events first (steps ∷ scripts) (done ∷ all) same each =
    let here : first + 0 ≡ first = omega arith in (
      subst (λ (n : ℕ). HasEnded d events n steps (end_of done)) here (each 0 done (omega arith)),
      all_ended d events (first + 1) scripts all (omega (arith, same))
          (λ k x less.
          let there : first + suc k ≡ first + 1 + k = omega arith in
          subst (λ (n : ℕ). HasEnded d events n (get_or scripts k []) (end_of (get_or all k x))) there (each (suc k) x (omega (arith, less)))),
    )

-- what the ends tell
texts_of : (all : List Done) → map (λ (done : Done). done.transcript.text) all ≡ map (λ (ended : Ended). ended.text) (map end_of all)
texts_of [] = refl
texts_of (done ∷ all) = ap (λ texts. done.transcript.text ∷ texts) (texts_of all)

full_of : (all : List Done) → list_any (λ (done : Done). done.transcript.log_full) all ≡ met_full (map end_of all)
full_of [] = refl
full_of (done ∷ all) = ap (λ b. done.transcript.log_full || b) (full_of all)

-- each of those that ended is done
pub each_done : (db : Shared) (scripts : List (List Step)) (all : List Done) (tries : List (Result Done NoMemory)) (passes : List Pass) → map Ok all ≡ tries → length tries ≡ length passes
    → ((k : ℕ) (p : Pass) → k < length passes → (get_or passes k p).number ≡ k)
    → ((k : ℕ) (d : Result Done NoMemory) (p : Pass) → k < length passes → IfOk (get_or tries k d) (IsDone db scripts (get_or passes k p).number))
    → (k : ℕ) (d : Done) → k < length passes → IsDone db scripts k (get_or all k d)
each_done db scripts all tries passes is many numbered each k d less =
    let count : length all ≡ length passes = sym (length-map all (λ (x : Done). Ok x)) ∙ (ap length is ∙ many) in
    let got : get_or tries k (Ok d) ≡ Ok (get_or all k d) = ap (λ (ts : List (Result Done NoMemory)). get_or ts k (Ok d)) (sym is) ∙ get_or-map (λ (x : Done). Ok x) all k d (Ok d) (omega (arith, less, count)) in
    subst (λ (n : ℕ). IsDone db scripts n (get_or all k d)) (numbered k d.pass less)
    (subst (λ (r : Result Done NoMemory). IfOk r (IsDone db scripts (get_or passes k d.pass).number)) got (each k (Ok d) d.pass less))

pub all_count : (all : List Done) (tries : List (Result Done NoMemory)) → map Ok all ≡ tries → length all ≡ length tries
all_count all tries is = sym (length-map all (λ (x : Done). Ok x)) ∙ ap length is

-- each script is done, with the pass of its number
pub record AreDone (db : Shared) (d : Design) (scripts : List (List Step)) (all : List Done) (passes : List Pass) : Type 0 where
  pub base : db.base ≡ d
  pub seats : db.seats ≡ length scripts
  pub many : length all ≡ length scripts
  pub each : (k : ℕ) (x : Done) → k < length scripts → IsDone db scripts k (get_or all k x)
  pub parts : passes ≡ map (λ (done : Done). done.pass) all

pass_at : (all : List Done) (passes : List Pass) (k : ℕ) (x : Done) → passes ≡ map (λ (done : Done). done.pass) all → k < length all → get_or passes k x.pass ≡ (get_or all k x).pass
pass_at all passes k x is less = ap (λ (ps : List Pass). get_or ps k x.pass) is ∙ get_or-map (λ (done : Done). done.pass) all k x x.pass less

pass_count : (all : List Done) (passes : List Pass) → passes ≡ map (λ (done : Done). done.pass) all → length passes ≡ length all
pass_count all passes is = ap length is ∙ length-map all (λ (done : Done). done.pass)

-- the passes are ready, and one of each number is there
some_done : (all : List Done) (passes : List Pass) (k : ℕ) (p : Pass) → passes ≡ map (λ (done : Done). done.pass) all → k < length passes
    → (x : Done) × (get_or passes k p ≡ (get_or all k x).pass)
some_done [] passes k p is less = absurd (omega (arith, less, ap length is))
some_done (done ∷ all) passes k p is less =
    let count = pass_count (done ∷ all) passes is in
    let found : get_or passes k p ≡ (get_or (done ∷ all) k done).pass =
    ap (λ (ps : List Pass). get_or ps k p) is ∙ get_or-map (λ (x : Done). x.pass) (done ∷ all) k done p (omega (arith, less, count)) in
    (done, found)

pub passes_ready : (db : Shared) (d : Design) (scripts : List (List Step)) (all : List Done) (passes : List Pass) → AreDone db d scripts all passes → All (IsReady db) passes
passes_ready db d scripts all passes are k p less =
    let found = some_done all passes k p are.parts less in
    let count = pass_count all passes are.parts in
    subst (IsReady db) (sym found.1) (are.each k found.0 (omega (arith, less, count, are.many))).ready

pub passes_all : (db : Shared) (d : Design) (scripts : List (List Step)) (all : List Done) (passes : List Pass) → AreDone db d scripts all passes → HasEachSeat db.seats passes
passes_all db d scripts all passes are =
    let count = pass_count all passes are.parts in
    has_each passes db.seats (
      count ∙ (are.many ∙ sym are.seats),
      λ k p less.
          let low : k < length passes = omega (arith, less, count, are.many, are.seats) in
          let found = some_done all passes k p are.parts low in
          ap (λ (x : Pass). x.number) found.1 ∙ (are.each k found.0 (omega (arith, less, are.seats))).mine,
    )

-- the run
pub closed_run : (db : Shared) (d : Design) (scripts : List (List Step)) (all : List Done) (passes : List Pass) (core : Story) (texts : List (List ℕ)) (full : Bool)
    → AreDone db d scripts all passes → Closes db passes core → texts ≡ map (λ (done : Done). done.transcript.text) all → full ≡ list_any (λ (done : Done). done.transcript.log_full) all
    → HaveRun d scripts core texts full
closed_run db d scripts all passes core texts full are closes told met =
    let count = pass_count all passes are.parts in record {
      opening = closes.opening ∙ are.base;
      sound = closes.history;
      callers = subst (λ (n : ℕ). All (λ (event : Event). event.caller < n) core.events) are.seats closes.others;
      ends = map end_of all;
      each = all_ended d core.events 0 scripts all are.many
          (λ k x less.
          let at : get_or passes k x.pass ≡ (get_or all k x).pass = pass_at all passes k x are.parts (omega (arith, less, are.many)) in
          let agree = closes.each k x.pass (omega (arith, less, count, are.many)) in
          let none : k ≡ 0 + k = omega arith in
          subst (λ (n : ℕ). HasEnded d core.events n (get_or scripts k []) (end_of (get_or all k x))) none
          (has_ended db d scripts core.events k (get_or all k x) are.base (are.each k x less) (subst (λ (p : Pass). AgreeWith maker core.events p.number p.seen p.own) at agree)));
      told = told ∙ texts_of all;
      full = met ∙ full_of all;
    }

-- what was opened, run and given back
pub are_done : (d : Design) (scripts : List Parts) (callers : ℕ) (db : Shared) (passes back : List Pass) (all : List Done) → callers ≡ length scripts → Opens d callers db passes → length all ≡ length passes
    → ((k : ℕ) (x : Done) → k < length passes → IsDone db (all_steps scripts) k (get_or all k x)) → back ≡ map (λ (done : Done). done.pass) all → AreDone db d (all_steps scripts) all back
are_done d scripts callers db passes back all same opens many each parts =
    let count : length (all_steps scripts) ≡ length scripts = length-map scripts (λ (script : Parts). steps_of script.lines) in record {
      base = opens.base;
      seats = opens.seats ∙ (same ∙ sym count);
      many = many ∙ (opens.many ∙ (same ∙ sym count));
      each = λ k x less. each k x (omega (arith, less, count, same, opens.many));
      parts = parts;
    }
