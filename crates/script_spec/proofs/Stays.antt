-- A session of a caller who makes no more calls stays.
use Rattle.std.proofs.Common.{◌≡◌, ◌∙◌, ℕ, zero, suc, ◌+◌, ◌≤◌, List, [], ◌∷◌, ◌++◌, Bool, true, false, length, map, inl, inr, refl, ap, sym, subst, arith, append-nil}
use Rattle.std.specs.Prelude.{◌==◌, cond, filter}
use Rattle.std.specs.List.{AllByRecursion}
use Rattle.std.proofs.lemmas.List.{length-append}
use Rattle.netlist_schema.specs.Design.{Design}
use Rattle.edit_spec.specs.declared.ops.Op.{Op}
use Rattle.edif_spec.proofs.CellPlaces.{all_append_parts}
use Rattle.db_spec.specs.Answers.{Answers}
use Rattle.db_spec.specs.History.{IsLegalFrom, state_after, state_from, version_at}
use Rattle.db_spec.specs.State.{State, after, head, opening}
use Rattle.db_spec.specs.declared.event.Answer.{Answer}
use Rattle.db_spec.specs.declared.event.Answer.TheVariants as answer
use Rattle.db_spec.specs.declared.event.Call.{Call}
use Rattle.db_spec.specs.declared.event.Call.TheVariants as call
use Rattle.db_spec.specs.declared.event.Event.{Event}
use Rattle.db_spec.proofs.Histories.{GoesOn, goes_on_from, legal-left, version_stays}
use Rattle.script_spec.specs.Laws.{SessionStays}
use Rattle.script_spec.specs.Session.{Word, Replied, Began, Held, Nothing, OnPin, OffPin, InBlock, Ending, Outcome, On, Stop, Exchange, Told, Commits, Goes, Runs, exchanges, replied, reply_behind}
use Rattle.script_spec.specs.declared.script.Step.{Step}
use Rattle.script_spec.specs.declared.script.Step.TheVariants.{Begin, Run, Commit, Abandon, Pin, PinAt, Walk, Release, Collect}

-- a pin that is answered is on one of the versions up to h
abbrev UpTo : ℕ → Exchange → Type 0
UpTo h (Told c (answer.Pinned pin v)) = v ≤ h
UpTo h other = Unit {0}

abbrev HeldUpTo : ℕ → Held → Type 0
HeldUpTo h (OnPin pin v) = v ≤ h
HeldUpTo h (InBlock pin v n ops) = v ≤ h
HeldUpTo h held = Unit {0}

abbrev OutcomeUpTo : ℕ → Outcome → Type 0
OutcomeUpTo h (On held) = HeldUpTo h held
OutcomeUpTo h (Stop places) = Unit {0}

-- ---- pins of a legal history

pub later_head : (s t : State) → GoesOn s t → head s ≤ head t
later_head s t g = let len : length t.commits ≡ length s.commits + length g.more = ap length g.commits ∙ length-append s.commits g.more in omega (arith, len)

pinned_head : (s : State) (caller : ℕ) (c : Call) (a : Answer) (h : ℕ) → Answers s caller c a → head s ≤ h → UpTo h (Told c a)
pinned_head s caller call.Pin (answer.Pinned n v) h x le = let at = x.1 in omega (arith, at, le)
pinned_head s caller (call.PinAt w) (answer.Pinned n v) h x le = let low = x.0 in let at = x.3 in omega (arith, low, at, le)
pinned_head s caller (call.Release p) (answer.Pinned n v) h x le = absurd x
pinned_head s caller call.Collect (answer.Pinned n v) h x le = absurd x
pinned_head s caller (call.Commit p ops) (answer.Pinned n v) h x le = absurd x
pinned_head s caller c (answer.NoVersion last) h x le = tt
pinned_head s caller c (answer.Gone least) h x le = tt
pinned_head s caller c answer.Released h x le = tt
pinned_head s caller c (answer.Collected n) h x le = tt
pinned_head s caller c (answer.Committed v rs) h x le = tt
pinned_head s caller c (answer.Conflict o v) h x le = tt

one_up_to : (h k : ℕ) (b : Bool) (event : Event) (rest : List Event) → UpTo h (Told event.call event.answer)
    → AllByRecursion (UpTo h) (map (λ (e : Event). Told e.call e.answer) rest) → AllByRecursion (UpTo h) (map (λ (e : Event). Told e.call e.answer) (cond b (event ∷ rest) rest))
one_up_to h k true event rest x xs = (x, xs)
one_up_to h k false event rest x xs = xs

all_up_to : (s : State) (events : List Event) (caller h : ℕ) → IsLegalFrom s events → head (state_from s events) ≤ h → AllByRecursion (UpTo h) (exchanges caller events)
all_up_to s [] caller h legal le = tt
all_up_to s (event ∷ events) caller h legal le =
    let now : head s ≤ head (state_from s (event ∷ events)) = later_head s (state_from s (event ∷ events)) (goes_on_from s (event ∷ events)) in
    one_up_to h caller (event.caller == caller) event (filter (λ e. e.caller == caller) events)
    (pinned_head s event.caller event.call event.answer h legal.0.answers (omega (arith, now, le)))
    (all_up_to (after s event) events caller h legal.1 le)

-- ---- the same session over versions that agree

abbrev Agrees : (ℕ → Design) → (ℕ → Design) → ℕ → Type 0
Agrees old new h = (v : ℕ) → v ≤ h → old v ≡ new v

same_commits : (old new : ℕ → Design) (h : ℕ) → Agrees old new h → (ops : List Op) (retries pin : ℕ) (done : List Exchange) (said : List Word) (o : Outcome)
    → AllByRecursion (UpTo h) done → Commits old ops retries pin done said o → Commits new ops retries pin done said o × OutcomeUpTo h o
same_commits old new h agree ops zero pin done said o a (inl x) = (inl x, subst (λ (p : Outcome). OutcomeUpTo h p) (sym x.2) tt)
same_commits old new h agree ops zero pin done said o a (inr (inl x)) = (inr (inl x), subst (λ (p : Outcome). OutcomeUpTo h p) (sym x.2.2) tt)
same_commits old new h agree ops zero pin done said o a (inr (inr x)) = (inr (inr x), subst (λ (p : Outcome). OutcomeUpTo h p) (sym x.2.2) tt)
same_commits old new h agree ops (suc n) pin done said o a (inl x) = (inl x, subst (λ (p : Outcome). OutcomeUpTo h p) (sym x.2) tt)
same_commits old new h agree ops (suc n) pin done said o a (inr (inl x)) = (inr (inl x), subst (λ (p : Outcome). OutcomeUpTo h p) (sym x.2.2) tt)
same_commits old new h agree ops (suc n) pin done said o a (inr (inr (obj, w, rest, more, d, s, inl y))) =
    (inr (inr (obj, w, rest, more, d, s, inl y)), subst (λ (p : Outcome). OutcomeUpTo h p) (sym y.2) tt)
same_commits old new h agree ops (suc n) pin done said o a (inr (inr (obj, w, rest, more, d, s, inr y))) =
    let here = subst (λ (xs : List Exchange). AllByRecursion (UpTo h) xs) d a in
    let pinned = subst (λ (xs : List Exchange). AllByRecursion (UpTo h) xs) y.4 here.1.1 in
    let then = same_commits old new h agree ops n y.0 y.2 y.3 o pinned.1 y.6 in
    (inr (inr (obj, w, rest, more, d, s, inr (y.0, y.1, y.2, y.3, y.4, y.5 ∙ ap (λ (e : Design). Began y.1 ∷ replied e ops ++ y.3) (agree y.1 pinned.0), then.0))), then.1)

same_goes : (old new : ℕ → Design) (h : ℕ) → Agrees old new h → (held : Held) (step : Step) (done : List Exchange) (said : List Word) (o : Outcome)
    → HeldUpTo h held → AllByRecursion (UpTo h) done → Goes old held step done said o → Goes new held step done said o × OutcomeUpTo h o
same_goes old new h agree Nothing (Begin n) done said o k a (inl x) = (inl x, subst (λ (p : Outcome). OutcomeUpTo h p) (sym x.2) tt)
same_goes old new h agree Nothing (Begin n) done said o k a (inr x) = let pinned = subst (λ (xs : List Exchange). AllByRecursion (UpTo h) xs) x.2.0 a in (inr x, subst (λ (p : Outcome). OutcomeUpTo h p) (sym x.2.2) pinned.0)
same_goes old new h agree Nothing Pin done said o k a (inl x) = (inl x, subst (λ (p : Outcome). OutcomeUpTo h p) (sym x.2) tt)
same_goes old new h agree Nothing Pin done said o k a (inr x) = let pinned = subst (λ (xs : List Exchange). AllByRecursion (UpTo h) xs) x.2.0 a in (inr x, subst (λ (p : Outcome). OutcomeUpTo h p) (sym x.2.2) pinned.0)
same_goes old new h agree Nothing (PinAt w) done said o k a (inl x) = (inl x, subst (λ (p : Outcome). OutcomeUpTo h p) (sym x.2) tt)
same_goes old new h agree Nothing (PinAt w) done said o k a (inr (inl x)) = let pinned = subst (λ (xs : List Exchange). AllByRecursion (UpTo h) xs) x.2.0 a in (inr (inl x), subst (λ (p : Outcome). OutcomeUpTo h p) (sym x.2.2) pinned.0)
same_goes old new h agree Nothing (PinAt w) done said o k a (inr (inr (inl x))) = (inr (inr (inl x)), subst (λ (p : Outcome). OutcomeUpTo h p) (sym x.1.2) tt)
same_goes old new h agree Nothing (PinAt w) done said o k a (inr (inr (inr x))) = (inr (inr (inr x)), subst (λ (p : Outcome). OutcomeUpTo h p) (sym x.1.2) tt)
same_goes old new h agree (InBlock pin v n ops) (Run op) done said o k a x = ((x.0, x.1 ∙ ap (λ (e : Design). Replied (reply_behind e ops op) ∷ []) (agree v k), x.2), subst (λ (p : Outcome). OutcomeUpTo h p) (sym x.2) k)
same_goes old new h agree (InBlock pin v n ops) Commit done said o k a x = same_commits old new h agree ops n pin done said o a x
same_goes old new h agree (InBlock pin v n ops) Abandon done said o k a x = (x, subst (λ (p : Outcome). OutcomeUpTo h p) (sym x.2) tt)
same_goes old new h agree (OnPin pin v) (Walk limit) done said o k a x = (x, subst (λ (p : Outcome). OutcomeUpTo h p) (sym x.2) k)
same_goes old new h agree (OnPin pin v) Release done said o k a x = (x, subst (λ (p : Outcome). OutcomeUpTo h p) (sym x.2) tt)
same_goes old new h agree OffPin (Walk limit) done said o k a x = (x, subst (λ (p : Outcome). OutcomeUpTo h p) (sym x.2) tt)
same_goes old new h agree OffPin Release done said o k a x = (x, subst (λ (p : Outcome). OutcomeUpTo h p) (sym x.2) tt)
same_goes old new h agree (InBlock pin v n ops) Collect done said o k a x = absurd x
same_goes old new h agree Nothing Collect done said o k a (inl x) = (inl x, subst (λ (p : Outcome). OutcomeUpTo h p) (sym x.2) tt)
same_goes old new h agree Nothing Collect done said o k a (inr x) = (inr x, subst (λ (p : Outcome). OutcomeUpTo h p) (sym x.1.2) tt)
same_goes old new h agree (OnPin pin v) Collect done said o k a (inl x) = (inl x, subst (λ (p : Outcome). OutcomeUpTo h p) (sym x.2) tt)
same_goes old new h agree (OnPin pin v) Collect done said o k a (inr x) = (inr x, subst (λ (p : Outcome). OutcomeUpTo h p) (sym x.1.2) k)
same_goes old new h agree OffPin Collect done said o k a (inl x) = (inl x, subst (λ (p : Outcome). OutcomeUpTo h p) (sym x.2) tt)
same_goes old new h agree OffPin Collect done said o k a (inr x) = (inr x, subst (λ (p : Outcome). OutcomeUpTo h p) (sym x.1.2) tt)
same_goes old new h agree held step done said o k a x = absurd x

same_runs : (old new : ℕ → Design) (h : ℕ) → Agrees old new h → (held : Held) (steps : List Step) (done : List Exchange) (said : List Word) (ending : Ending)
    → HeldUpTo h held → AllByRecursion (UpTo h) done → Runs old held steps done said ending → Runs new held steps done said ending
same_runs old new h agree held [] done said ending k a x = x
same_runs old new h agree held (step ∷ steps) done said ending k a (inl x) = inl (x.0, (same_goes old new h agree held step done said (Stop x.0) k a x.1).0, x.2)
same_runs old new h agree held (step ∷ steps) done said ending k a (inr x) =
    let parts = all_append_parts (UpTo h) x.1 x.2 (subst (λ (xs : List Exchange). AllByRecursion (UpTo h) xs) x.5 a) in
    let first = same_goes old new h agree held step x.1 x.3 (On x.0) k parts.0 x.7 in
    inr (x.0, x.1, x.2, x.3, x.4, x.5, x.6, first.0, same_runs old new h agree x.0 steps x.2 x.4 ending first.1 parts.1 x.8)

-- ---- events of others

pub filter_append : (k : ℕ) (xs ys : List Event) → exchanges k (xs ++ ys) ≡ exchanges k xs ++ exchanges k ys
filter_append k [] ys = refl
filter_append k (x ∷ xs) ys = decide (x.caller == k) (filter (λ e. e.caller == k) (xs ++ ys)) (filter (λ e. e.caller == k) xs) (filter_append k xs ys)
  where
    decide : (b : Bool) (whole front : List Event)
        → map (λ (e : Event). Told e.call e.answer) whole ≡ map (λ (e : Event). Told e.call e.answer) front ++ exchanges k ys
        → map (λ (e : Event). Told e.call e.answer) (cond b (x ∷ whole) whole) ≡ map (λ (e : Event). Told e.call e.answer) (cond b (x ∷ front) front) ++ exchanges k ys
    decide true whole front e = ap (λ rest. Told x.call x.answer ∷ rest) e
    decide false whole front e = e

pub session_stays : SessionStays
session_stays d seen more caller steps said ending legal none s =
    let h = head (state_after d seen) in
    let same : exchanges caller (seen ++ more) ≡ exchanges caller seen = filter_append caller seen more ∙ ap (λ rest. exchanges caller seen ++ rest) none ∙ append-nil (exchanges caller seen) in
    let up_to = all_up_to (opening d) seen caller h (legal-left (opening d) seen more legal) (omega arith) in
    let agree : Agrees (version_at d seen) (version_at d (seen ++ more)) h = λ v le. sym (version_stays d seen more v le) in
    subst (λ (xs : List Exchange). Runs (version_at d (seen ++ more)) Nothing steps xs said ending) (sym same)
    (same_runs (version_at d seen) (version_at d (seen ++ more)) h agree Nothing steps (exchanges caller seen) said ending tt up_to s)
