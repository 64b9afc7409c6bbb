-- Scripts that have room together meet no full log.
use Rattle.std.proofs.Common.{◌≡◌, ◌∙◌, ℕ, zero, suc, ◌+◌, ◌*◌, ◌≤◌, ◌<◌, List, [], ◌∷◌, Bool, true, false, length, inl, inr, refl, ap, sym, subst, arith, eqb, ◌≢◌}
use Rattle.std.specs.Prelude.{◌⊎◌, ◌==◌, cond, filter, map}
use Rattle.std.specs.List.{All, AllByRecursion}
use Rattle.std.proofs.lemmas.Bool.Decides.{eqb_tells}
use Rattle.std.proofs.lemmas.List.{length-append}
use Rattle.std.proofs.lemmas.List.Elements.{All-from_recursion, All-head, All-tail}
use Rattle.netlist_schema.specs.Design.{Design}
use Rattle.edit_spec.specs.declared.ops.Op.{Op}
use Rattle.db_spec.specs.Answers.{most_events}
use Rattle.db_spec.specs.History.{version_at}
use Rattle.db_spec.specs.declared.event.Event.{Event}
use Rattle.script_spec.specs.Headline.{IsWhole, RoomSuffices, all_places, script_places, step_places}
use Rattle.script_spec.specs.Report.{HasFilled, Sessions, SessionResult}
use Rattle.script_spec.specs.Session.{Word, Held, Nothing, OnPin, OffPin, InBlock, Ending, Whole, Full, Outcome, On, Stop, Exchange, Told, Refused, Does, BeginsAgain, Commits, Goes, Runs, exchanges, last_release}
use Rattle.script_spec.specs.declared.script.Step.{Step}
use Rattle.script_spec.specs.declared.script.Step.TheVariants.{Begin, Run, Commit, Abandon, Pin, PinAt, Walk, Release, Collect}

-- the places that what is held may take yet
abbrev owed : Held → ℕ
owed Nothing = 0
owed (OnPin pin v) = 1
owed OffPin = 0
owed (InBlock pin v retries ops) = 3 * retries + 2

abbrev owed_then : Outcome → ℕ
owed_then (On held) = owed held
owed_then (Stop places) = places

-- the places that were wanted at the end
abbrev wanted : Ending → ℕ
wanted Whole = 0
wanted (Full places) = places

done_places : (xs done : List Exchange) (o p : Outcome) (n : ℕ) → done ≡ xs → o ≡ p → length xs + owed_then p ≤ n → length done + owed_then o ≤ n
done_places xs done o p n d e le = subst (λ (q : Outcome). length done + owed_then q ≤ n) (sym e) (subst (λ (ys : List Exchange). length ys + owed_then p ≤ n) (sym d) le)

-- a line of which something was done, or which was refused
does_places : (xs done : List Exchange) (ws said : List Word) (held : Held) (o : Outcome) (n : ℕ) → Does xs ws held done said o → length xs + owed held ≤ n → length done + owed_then o ≤ n
does_places xs done ws said held o n d le = done_places xs done o (On held) n d.0 d.2 le

refused_places : (left done : List Exchange) (said : List Word) (places : ℕ) (o : Outcome) (n : ℕ) → Refused left places done said o → length left + places ≤ n → length done + owed_then o ≤ n
refused_places left done said places o n r le = done_places left done o (Stop places) n r.0 r.2 le

-- what comes behind a conflict
again_places : (versions : ℕ → Design) (ops : List Op) (n : ℕ) (rest : List Exchange) (more : List Word) (o : Outcome)
    → ((pin : ℕ) (others : List Exchange) (words : List Word) → Commits versions ops n pin others words o → length others + owed_then o ≤ 3 * n + 2)
    → Refused [] 2 rest more o ⊎ BeginsAgain versions ops rest more (λ next others words. Commits versions ops n next others words o)
    → suc (suc (length rest)) + owed_then o ≤ 3 * suc n + 2
again_places versions ops n rest more o then (inl y) = let le = refused_places [] rest more 2 o 2 y (omega arith) in omega (arith, le)
again_places versions ops n rest more o then (inr y) =
    let le : length y.2 + owed_then o ≤ 3 * n + 2 = then y.0 y.2 y.3 y.6 in
    let len : length rest ≡ suc (length y.2) = ap length y.4 in omega (arith, le, len)

commit_places : (versions : ℕ → Design) (ops : List Op) (retries pin : ℕ) (done : List Exchange) (said : List Word) (o : Outcome)
    → Commits versions ops retries pin done said o → length done + owed_then o ≤ 3 * retries + 2
commit_places versions ops zero pin done said o (inl x) = refused_places _ done said 1 o 2 x (omega arith)
commit_places versions ops zero pin done said o (inr (inl x)) = does_places _ done _ said Nothing o 2 x.2 (omega arith)
commit_places versions ops zero pin done said o (inr (inr x)) = does_places _ done _ said Nothing o 2 x.2 (omega arith)
commit_places versions ops (suc n) pin done said o (inl x) = refused_places _ done said 1 o (3 * suc n + 2) x (omega arith)
commit_places versions ops (suc n) pin done said o (inr (inl x)) = does_places _ done _ said Nothing o (3 * suc n + 2) x.2 (omega arith)
commit_places versions ops (suc n) pin done said o (inr (inr x)) =
    subst (λ (d : List Exchange). length d + owed_then o ≤ 3 * suc n + 2) (sym x.4)
    (again_places versions ops n x.2 x.3 o (λ next others words c. commit_places versions ops n next others words o c) x.6)

line_places : (versions : ℕ → Design) (held : Held) (step : Step) (done : List Exchange) (said : List Word) (o : Outcome)
    → Goes versions held step done said o → length done + owed_then o ≤ step_places step + owed held
line_places versions Nothing (Begin n) done said o (inl x) = refused_places [] done said 2 o (3 * (n + 1) + 0) x (omega arith)
line_places versions Nothing (Begin n) done said o (inr x) = does_places _ done _ said (InBlock x.0 x.1 n []) o (3 * (n + 1) + 0) x.2 (omega arith)
line_places versions (InBlock pin v n ops) (Run op) done said o x = does_places _ done _ said _ o (0 + (3 * n + 2)) x (omega arith)
line_places versions (InBlock pin v n ops) Commit done said o x = let le = commit_places versions ops n pin done said o x in omega (arith, le)
line_places versions (InBlock pin v n ops) Abandon done said o x = does_places _ done _ said Nothing o (0 + (3 * n + 2)) x (omega arith)
line_places versions Nothing Pin done said o (inl x) = refused_places [] done said 2 o 2 x (omega arith)
line_places versions Nothing Pin done said o (inr x) = does_places _ done _ said (OnPin x.0 x.1) o 2 x.2 (omega arith)
line_places versions Nothing (PinAt v) done said o (inl x) = refused_places [] done said 2 o 2 x (omega arith)
line_places versions Nothing (PinAt v) done said o (inr (inl x)) = does_places _ done _ said (OnPin x.0 x.1) o 2 x.2 (omega arith)
line_places versions Nothing (PinAt v) done said o (inr (inr (inl x))) = does_places _ done _ said OffPin o 2 x.1 (omega arith)
line_places versions Nothing (PinAt v) done said o (inr (inr (inr x))) = does_places _ done _ said OffPin o 2 x.1 (omega arith)
line_places versions (OnPin pin v) (Walk limit) done said o x = does_places _ done _ said (OnPin pin v) o 1 x (omega arith)
line_places versions (OnPin pin v) Release done said o x = does_places _ done _ said Nothing o 1 x (omega arith)
line_places versions OffPin (Walk limit) done said o x = does_places _ done _ said OffPin o 0 x (omega arith)
line_places versions OffPin Release done said o x = does_places _ done _ said Nothing o 0 x (omega arith)
line_places versions (InBlock pin v n ops) Collect done said o x = absurd x
line_places versions Nothing Collect done said o (inl x) = refused_places _ done said 1 o 1 x (omega arith)
line_places versions Nothing Collect done said o (inr x) = does_places _ done _ said Nothing o 1 x.1 (omega arith)
line_places versions (OnPin pin v) Collect done said o (inl x) = refused_places _ done said 1 o 2 x (omega arith)
line_places versions (OnPin pin v) Collect done said o (inr x) = does_places _ done _ said (OnPin pin v) o 2 x.1 (omega arith)
line_places versions OffPin Collect done said o (inl x) = refused_places _ done said 1 o 1 x (omega arith)
line_places versions OffPin Collect done said o (inr x) = does_places _ done _ said OffPin o 1 x.1 (omega arith)
line_places versions held step done said o x = absurd x

release_owed : (held : Held) → length (last_release held) ≤ owed held
release_owed Nothing = omega arith
release_owed (OnPin pin v) = omega arith
release_owed OffPin = omega arith
release_owed (InBlock pin v n ops) = omega arith

run_places : (versions : ℕ → Design) (held : Held) (steps : List Step) (done : List Exchange) (said : List Word) (ending : Ending)
    → Runs versions held steps done said ending → length done + wanted ending ≤ script_places steps + owed held
run_places versions held [] done said ending x =
    let len : length done ≡ length (last_release held) = ap length x.0 in
    let none : wanted ending ≡ 0 = ap wanted x.2 in
    let le = release_owed held in omega (arith, len, none, le)
run_places versions held (step ∷ steps) done said ending (inl x) =
    let le : length done + x.0 ≤ step_places step + owed held = line_places versions held step done said (Stop x.0) x.1 in
    let places : wanted ending ≡ x.0 = ap wanted x.2 in omega (arith, le, places)
run_places versions held (step ∷ steps) done said ending (inr x) =
    let first : length x.1 + owed x.0 ≤ step_places step + owed held = line_places versions held step x.1 x.3 (On x.0) x.7 in
    let others : length x.2 + wanted ending ≤ script_places steps + owed x.0 = run_places versions x.0 steps x.2 x.4 ending x.8 in
    let len : length done ≡ length x.1 + length x.2 = ap length x.5 ∙ length-append x.1 x.2 in
    omega (arith, first, others, len)

-- ---- the events of all callers

-- the number of events of the callers from this number on, as many as there are scripts
abbrev events_of_all : ℕ → List (List Step) → List Event → ℕ
events_of_all caller [] history = 0
events_of_all caller (script ∷ scripts) history = length (exchanges caller history) + events_of_all (caller + 1) scripts history

-- one more event of a caller
abbrev one_if : Bool → ℕ
one_if true = 1
one_if false = 0

counted : (b : Bool) (event : Event) (rest : List Event)
    → length (map (λ (e : Event). Told e.call e.answer) (cond b (event ∷ rest) rest)) ≡ one_if b + length (map (λ (e : Event). Told e.call e.answer) rest)
counted true event rest = omega arith
counted false event rest = omega arith

one_event : (k : ℕ) (event : Event) (history : List Event) → length (exchanges k (event ∷ history)) ≡ one_if (eqb event.caller k) + length (exchanges k history)
one_event k event history = counted (eqb event.caller k) event (filter (λ e. e.caller == k) history)

never_fewer : (caller : ℕ) (scripts : List (List Step)) (event : Event) (history : List Event) → events_of_all caller scripts history ≤ events_of_all caller scripts (event ∷ history)
never_fewer caller [] event history = omega arith
never_fewer caller (script ∷ scripts) event history =
    let here = one_event caller event history in
    let rest = never_fewer (caller + 1) scripts event history in omega (arith, here, rest)

-- the event is of this caller, or of a later one
at_caller : (caller it : ℕ) (before after others more : ℕ) → after ≡ one_if (eqb it caller) + before → others ≤ more → (caller + 1 ≤ it → others + 1 ≤ more) → caller ≤ it
    → ((eqb it caller ≡ true) × (it ≡ caller)) ⊎ ((eqb it caller ≡ false) × (it ≢ caller)) → before + others + 1 ≤ after + more
at_caller caller it before after others more here fewer later low (inl x) = let one : one_if (eqb it caller) ≡ 1 = ap one_if x.0 in omega (arith, here, fewer, one)
at_caller caller it before after others more here fewer later low (inr x) =
    let ne = x.1 in
    let next : caller + 1 ≤ it = grind (arith, ne, low) in
    let most = later next in omega (arith, here, most)

one_more : (caller : ℕ) (scripts : List (List Step)) (event : Event) (history : List Event) → caller ≤ event.caller → event.caller < caller + length scripts
    → events_of_all caller scripts history + 1 ≤ events_of_all caller scripts (event ∷ history)
one_more caller [] event history low high = absurd (omega (arith, low, high))
one_more caller (script ∷ scripts) event history low high =
    at_caller caller event.caller (length (exchanges caller history)) (length (exchanges caller (event ∷ history)))
    (events_of_all (caller + 1) scripts history) (events_of_all (caller + 1) scripts (event ∷ history))
    (one_event caller event history) (never_fewer (caller + 1) scripts event history)
    (λ next. one_more (caller + 1) scripts event history next (omega (arith, high))) low (eqb_tells event.caller caller)

all_events : (scripts : List (List Step)) (history : List Event) → All (λ (event : Event). event.caller < length scripts) history → length history ≤ events_of_all 0 scripts history
all_events scripts [] callers = omega arith
all_events scripts (event ∷ history) callers =
    let first : event.caller < length scripts = All-head (λ (e : Event). e.caller < length scripts) event history callers in
    let rest = all_events scripts history (All-tail (λ (e : Event). e.caller < length scripts) event history callers) in
    let more = one_more 0 scripts event history (omega arith) (omega (arith, first)) in omega (arith, rest, more)

-- ---- all scripts

-- where a script ends since the log was full, all scripts together have the places of the history and those that were wanted
also : (P Q : SessionResult → Type 0) → ((came : SessionResult) → P came → Q came) → (results : List SessionResult) → AllByRecursion P results → AllByRecursion Q results
also P Q f [] a = tt
also P Q f (came ∷ results) a = (f came a.0, also P Q f results a.1)

each_has_places : (d : Design) (history : List Event) (caller : ℕ) (scripts : List (List Step)) (results : List SessionResult) → Sessions d history caller scripts results
    → (events_of_all caller scripts history ≤ all_places scripts)
    × AllByRecursion (λ (came : SessionResult). events_of_all caller scripts history + wanted came.ending ≤ all_places scripts) results
each_has_places d history caller [] [] s = (omega arith, tt)
each_has_places d history caller [] (came ∷ results) s = absurd s
each_has_places d history caller (script ∷ scripts) [] s = absurd s
each_has_places d history caller (script ∷ scripts) (came ∷ results) s =
    let here : length (exchanges caller history) + wanted came.ending ≤ script_places script + 0 =
    run_places (version_at d history) Nothing script (exchanges caller history) came.said came.ending s.0 in
    let rest = each_has_places d history (caller + 1) scripts results s.1 in
    let others : events_of_all (caller + 1) scripts history ≤ all_places scripts = rest.0 in (
      omega (arith, here, others),
      (
        omega (arith, here, others),
        also (λ (t : SessionResult). events_of_all (caller + 1) scripts history + wanted t.ending ≤ all_places scripts)
            (λ (t : SessionResult). events_of_all caller (script ∷ scripts) history + wanted t.ending ≤ all_places (script ∷ scripts))
            (λ t le. omega (arith, here, le)) results rest.1,
      ),
    )

whole_where_room : (history : List Event) (ending : Ending) → HasFilled history ending → length history + wanted ending ≤ most_events → IsWhole ending
whole_where_room history Whole f le = refl
whole_where_room history (Full places) f le = absurd (omega (arith, f, le))

pub room_suffices : RoomSuffices
room_suffices d scripts text history room prints =
    let all = all_events scripts history prints.callers in
    let each = All-from_recursion (λ (came : SessionResult). events_of_all 0 scripts history + wanted came.ending ≤ all_places scripts) prints.results
    (each_has_places d history 0 scripts prints.results prints.fit).1 in
    λ k other lt.
    let places = each k other lt in
    whole_where_room history _ (prints.filled k other lt) (omega (arith, all, places, room))
