-- What stands of a caller in the middle of a history, and what the text of an event has there.
use Rattle.std.proofs.Common.{◌≡◌, ◌∙◌, ℕ, zero, suc, ◌+◌, ◌<◌, ◌==◌, Bool, true, false, cond, List, [], ◌∷◌, ◌++◌, length, get_or, refl, ap, sym, subst, arith, append-nil, map, filter, Contains}
use Rattle.std.specs.Prelude.{codes, decimal}
use Rattle.std.specs.List.{All}
use Rattle.std.proofs.lemmas.Bool.Decides.{nat_tests}
use Rattle.std.proofs.lemmas.List.Elements.{All-contains}
use Rattle.netlist_schema.specs.Design.{Design}
use Rattle.edit_rules_spec.specs.Objects.{Grown}
use Rattle.db_spec.specs.Answers.{Admits}
use Rattle.db_spec.specs.History.{Legal, state_after}
use Rattle.db_spec.specs.State.{head, opening}
use Rattle.db_spec.specs.declared.event.Answer.{Answer}
use Rattle.db_spec.specs.declared.event.Answer.TheVariants as answer
use Rattle.db_spec.specs.declared.event.Call.{Call}
use Rattle.db_spec.specs.declared.event.Call.TheVariants as call
use Rattle.db_spec.specs.declared.event.Event.{Event}
use Rattle.db_spec.proofs.Histories.{legal-right, version_stays}
use Rattle.db_spec.proofs.Lists.{in_head, in_tail}
use Rattle.db_spec.proofs.Made.{conflict_is_there}
use Rattle.db_spec.proofs.Promised.{growth}
use Rattle.script_spec.specs.Report.{Sessions, SessionResult, head_design}
use Rattle.script_spec.specs.Session.{Exchange, Session, Told, exchanges}
use Rattle.script_spec.specs.Texts.{call_words, event_text, line, op_lines}
use Rattle.script_spec.specs.declared.script.Step.{Step}
use Rattle.script_spec.proofs.Settled.{later, words_stay}
use Rattle.script_spec.proofs.Stays.{filter_append}

-- ---- the exchanges of a caller

same_test : (m n : ℕ) → m ≡ n → (m == n) ≡ true
same_test m n e = grind (arith, nat_tests)

other_test : (m n : ℕ) → (m ≡ n → ⊥) → (m == n) ≡ false
other_test m n e = grind (arith, nat_tests)

-- an event of the caller is its next exchange
pub own_next : (caller : ℕ) (event : Event) (more : List Event) → event.caller ≡ caller → exchanges caller (event ∷ more) ≡ Told event.call event.answer ∷ exchanges caller more
own_next caller event more is =
    ap (λ (b : Bool). map (λ (e : Event). Told e.call e.answer) (cond b (event ∷ filter (λ (e : Event). e.caller == caller) more) (filter (λ (e : Event). e.caller == caller) more)))
    (same_test event.caller caller is)

pub others_next : (caller : ℕ) (event : Event) (more : List Event) → (event.caller ≡ caller → ⊥) → exchanges caller (event ∷ more) ≡ exchanges caller more
others_next caller event more is =
    ap (λ (b : Bool). map (λ (e : Event). Told e.call e.answer) (cond b (event ∷ filter (λ (e : Event). e.caller == caller) more) (filter (λ (e : Event). e.caller == caller) more)))
    (other_test event.caller caller is)

pub own_middle : (seen : List Event) (event : Event) (more : List Event)
    → exchanges event.caller (seen ++ event ∷ more) ≡ exchanges event.caller seen ++ Told event.call event.answer ∷ exchanges event.caller more
own_middle seen event more = filter_append event.caller seen (event ∷ more) ∙ ap (λ (z : List Exchange). exchanges event.caller seen ++ z) (own_next event.caller event more refl)

-- ---- the session of a caller

abbrev pub script_of : List (List Step) → ℕ → List Step
script_of scripts k = get_or scripts k []

-- some session of the script of a caller
abbrev pub SomeSession : Design → List Event → ℕ → List Step → Type 0
SomeSession d history caller steps = (came : SessionResult) × Session d history caller steps came.said came.ending

sessions_at : (d : Design) (history : List Event) (first : ℕ) (scripts : List (List Step)) (results : List SessionResult) → Sessions d history first scripts results
    → (k : ℕ) → k < length scripts → SomeSession d history (first + k) (script_of scripts k)
sessions_at d history first [] [] all k less = absurd (omega (arith, less))
sessions_at d history first [] (came ∷ results) all k less = absurd all
sessions_at d history first (steps ∷ scripts) [] all k less = absurd all
sessions_at d history first (steps ∷ scripts) (came ∷ results) all zero less =
    let same : first ≡ first + 0 = omega arith in subst (λ (n : ℕ). SomeSession d history n steps) same (came, all.0)
sessions_at d history first (steps ∷ scripts) (came ∷ results) all (suc k) less =
    let same : first + 1 + k ≡ first + suc k = omega arith in
    subst (λ (n : ℕ). SomeSession d history n (script_of scripts k)) same (sessions_at d history (first + 1) scripts results all.1 k (omega (arith, less)))

pub session_of : (d : Design) (history : List Event) (scripts : List (List Step)) (results : List SessionResult) → Sessions d history 0 scripts results
    → (k : ℕ) → k < length scripts → SomeSession d history k (script_of scripts k)
session_of d history scripts results all k less = let same : 0 + k ≡ k = omega arith in subst (λ (n : ℕ). SomeSession d history n (script_of scripts k)) same (sessions_at d history 0 scripts results all k less)

-- ---- events in the middle

in_middle : {X : Type 0} (xs : List X) (x : X) (ys : List X) → Contains (xs ++ x ∷ ys) x
in_middle [] x ys = in_head x ys
in_middle (y ∷ xs) x ys = in_tail y x (xs ++ x ∷ ys) (in_middle xs x ys)

pub middle_holds : {X : Type 0} (P : X → Type 0) (xs : List X) (x : X) (ys : List X) → All P (xs ++ x ∷ ys) → P x
middle_holds P xs x ys all = All-contains P (xs ++ x ∷ ys) x all (in_middle xs x ys)

pub middle_admits : (d : Design) (seen : List Event) (event : Event) (more : List Event) → Legal d (seen ++ event ∷ more) → Admits (state_after d seen) event
middle_admits d seen event more legal = (legal-right (opening d) seen (event ∷ more) legal).0

pub head_grown : (d : Design) (seen more : List Event) → Legal d (seen ++ more) → Grown (head_design d seen) (head_design d (seen ++ more))
head_grown d seen more legal =
    let low = later d seen more in
    let empty : (seen ++ more) ++ [] ≡ seen ++ more = append-nil (seen ++ more) in
    let whole = growth d (seen ++ more) [] (subst (λ (z : List Event). Legal d z) (sym empty) legal) in
    subst (λ (old : Design). Grown old (head_design d (seen ++ more))) (version_stays d seen more (head (state_after d seen)) (omega arith))
    (whole.grown (head (state_after d seen)) (head (state_after d (seen ++ more))) low (omega arith))

text_stays : (d : Design) (seen more : List Event) (number caller : ℕ) (c : Call) (a : Answer) → Legal d (seen ++ more) → Admits (state_after d seen) (record { caller = caller; call = c; answer = a })
    → event_text (head_design d (seen ++ more)) number (record { caller = caller; call = c; answer = a }) ≡ event_text (head_design d seen) number (record { caller = caller; call = c; answer = a })
text_stays d seen more number caller (call.Commit pin ops) (answer.Conflict object w) legal x =
    ap (λ words. line (decimal number ∷ codes "caller" ∷ decimal caller ∷ (call_words (call.Commit pin ops) ++ codes "->" ∷ codes "conflict" ∷ (words ++ codes "version" ∷ decimal w ∷ []))) ++ op_lines ops []) (words_stay (head_design d seen) (head_design d (seen ++ more)) object (head_grown d seen more legal) (conflict_is_there d seen caller pin ops object w x.answers))
text_stays d seen more number caller c (answer.Pinned p v) legal x = refl
text_stays d seen more number caller c (answer.NoVersion last) legal x = refl
text_stays d seen more number caller c (answer.Gone least) legal x = refl
text_stays d seen more number caller c answer.Released legal x = refl
text_stays d seen more number caller c (answer.Collected n) legal x = refl
text_stays d seen more number caller c (answer.Committed v rs) legal x = refl
text_stays d seen more number caller c (answer.Conflict object w) legal x = absurd x.answers

-- the text of an event stays as the history goes on
pub event_stays : (d : Design) (seen : List Event) (event : Event) (more : List Event) (number : ℕ) → Legal d (seen ++ event ∷ more)
    → event_text (head_design d (seen ++ event ∷ more)) number event ≡ event_text (head_design d seen) number event
event_stays d seen event more number legal = text_stays d seen (event ∷ more) number event.caller event.call event.answer legal (middle_admits d seen event more legal)
