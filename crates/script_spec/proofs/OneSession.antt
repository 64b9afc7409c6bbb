-- A line, and so a script, goes on in one way on its caller's events.
use Rattle.std.proofs.Common.{◌≡◌, ◌∙◌, ℕ, List, [], ◌∷◌, ◌++◌, inl, inr, refl, ap, sym, subst, append-nil}
use Rattle.std.specs.Prelude.{◌⊎◌}
use Rattle.netlist_schema.specs.Design.{Design}
use Rattle.db_spec.specs.declared.event.Answer.{Answer}
use Rattle.db_spec.specs.declared.event.Answer.TheVariants as answer
use Rattle.db_spec.specs.declared.event.Call.{Call}
use Rattle.db_spec.specs.declared.event.Call.TheVariants as call
use Rattle.script_spec.specs.declared.script.Step.{Step}
use Rattle.script_spec.specs.declared.script.Step.TheVariants.{Begin, Run, Commit, Abandon, Pin, PinAt, Walk, Release, Collect}
use Rattle.script_spec.specs.Session.{Word, Collected, Held, Nothing, OnPin, OffPin, InBlock, Ending, Full, Outcome, On, Stop, Exchange, Told, release, last_release, Refused, Does, Goes, Runs}
use Rattle.script_spec.proofs.Unique.{Agree, IsLast, other_collect, both_refused, not_at_end, not_at_last, one_commit}

-- a call that is refused or answered, in one of these ways
same_does : (xs : List Exchange) (ws : List Word) (held : Held) (f g r s : List Exchange) (v w : List Word) (o p : Outcome)
    → Does xs ws held f v o → Does xs ws held g w p → f ++ r ≡ g ++ s → xs ++ r ≡ xs ++ s
same_does xs ws held f g r s v w o p x y h = ap (λ z. z ++ r) (sym x.0) ∙ h ∙ ap (λ z. z ++ s) y.0

both_silent : (ws : List Word) (held : Held) (f g r s : List Exchange) (v w : List Word) (o p : Outcome)
    → Does [] ws held f v o → Does [] ws held g w p → f ++ r ≡ g ++ s → Agree r s v w o p
both_silent ws held f g r s v w o p x y h = (same_does [] ws held f g r s v w o p x y h, cc (x.1, y.1), cc (x.2, y.2))

both_release : (pin : ℕ) (ws : List Word) (held : Held) (f g r s : List Exchange) (v w : List Word) (o p : Outcome)
    → Does (release pin ∷ []) ws held f v o → Does (release pin ∷ []) ws held g w p → f ++ r ≡ g ++ s → Agree r s v w o p
both_release pin ws held f g r s v w o p x y h =
    let same : release pin ∷ r ≡ release pin ∷ s = same_does (release pin ∷ []) ws held f g r s v w o p x y h in (cc (same), cc (x.1, y.1), cc (x.2, y.2))

-- one exchange each, which then is the same
abbrev One : Call → Answer → List Exchange → Type 0
One c a f = f ≡ Told c a ∷ []

joined : (c : Call) (a b : Answer) (f g r s : List Exchange) → One c a f → One c b g → f ++ r ≡ g ++ s → Told c a ∷ r ≡ Told c b ∷ s
joined c a b f g r s x y h = ap (λ z. z ++ r) (sym x) ∙ h ∙ ap (λ z. z ++ s) y

-- a collect, with this held
abbrev Collects : Held → List Exchange → List Word → Outcome → Type 0
Collects held f v o = Refused (last_release held) 1 f v o ⊎ ((count : ℕ) × Does (Told call.Collect (answer.Collected count) ∷ []) (Collected count ∷ []) held f v o)

both_collect : (held : Held) (f g r s : List Exchange) (v w : List Word) (o p : Outcome)
    → Collects held f v o → Collects held g w p → f ++ r ≡ g ++ s → IsLast o r → IsLast p s → Agree r s v w o p
both_collect held f g r s v w o p (inl x) (inl y) h l m = both_refused (last_release held) 1 f g r s v w o p x y l m
both_collect held f g r s v w o p (inl x) (inr y) h l m = absurd (not_at_last held 1 f g r s v o call.Collect (answer.Collected y.0) [] other_collect x l y.1.0 h)
both_collect held f g r s v w o p (inr x) (inl y) h l m = absurd (not_at_last held 1 g f s r w p call.Collect (answer.Collected x.0) [] other_collect y m x.1.0 (sym h))
both_collect held f g r s v w o p (inr x) (inr y) h l m =
    let same : Told call.Collect (answer.Collected x.0) ∷ r ≡ Told call.Collect (answer.Collected y.0) ∷ s = joined call.Collect (answer.Collected x.0) (answer.Collected y.0) f g r s x.1.0 y.1.0 h in
    let count : x.0 ≡ y.0 = cc (same) in
    (cc (same), cc (x.1.1, y.1.1, count), cc (x.1.2, y.1.2))

one_goes : (versions : ℕ → Design) (held : Held) (step : Step) (f g r s : List Exchange) (v w : List Word) (o p : Outcome)
    → Goes versions held step f v o → Goes versions held step g w p → f ++ r ≡ g ++ s → IsLast o r → IsLast p s → Agree r s v w o p
one_goes versions Nothing (Begin n) f g r s v w o p (inl x) (inl y) h l m = both_refused [] 2 f g r s v w o p x y l m
one_goes versions Nothing (Begin n) f g r s v w o p (inl x) (inr y) h l m = absurd (not_at_end 2 f g r s v o call.Pin (answer.Pinned y.0 y.1) [] x l y.2.0 h)
one_goes versions Nothing (Begin n) f g r s v w o p (inr x) (inl y) h l m = absurd (not_at_end 2 g f s r w p call.Pin (answer.Pinned x.0 x.1) [] y m x.2.0 (sym h))
one_goes versions Nothing (Begin n) f g r s v w o p (inr x) (inr y) h l m =
    let same : Told call.Pin (answer.Pinned x.0 x.1) ∷ r ≡ Told call.Pin (answer.Pinned y.0 y.1) ∷ s = joined call.Pin (answer.Pinned x.0 x.1) (answer.Pinned y.0 y.1) f g r s x.2.0 y.2.0 h in
    let pin : x.0 ≡ y.0 = cc (same) in
    let version : x.1 ≡ y.1 = cc (same) in
    (cc (same), cc (x.2.1, y.2.1, version), cc (x.2.2, y.2.2, pin, version))
one_goes versions (InBlock pin u n ops) (Run op) f g r s v w o p x y h l m = both_silent _ _ f g r s v w o p x y h
one_goes versions (InBlock pin u n ops) Commit f g r s v w o p x y h l m = one_commit versions ops n pin f g r s v w o p x y h l m
one_goes versions (InBlock pin u n ops) Abandon f g r s v w o p x y h l m = both_release pin _ _ f g r s v w o p x y h
one_goes versions Nothing Pin f g r s v w o p (inl x) (inl y) h l m = both_refused [] 2 f g r s v w o p x y l m
one_goes versions Nothing Pin f g r s v w o p (inl x) (inr y) h l m = absurd (not_at_end 2 f g r s v o call.Pin (answer.Pinned y.0 y.1) [] x l y.2.0 h)
one_goes versions Nothing Pin f g r s v w o p (inr x) (inl y) h l m = absurd (not_at_end 2 g f s r w p call.Pin (answer.Pinned x.0 x.1) [] y m x.2.0 (sym h))
one_goes versions Nothing Pin f g r s v w o p (inr x) (inr y) h l m =
    let same : Told call.Pin (answer.Pinned x.0 x.1) ∷ r ≡ Told call.Pin (answer.Pinned y.0 y.1) ∷ s = joined call.Pin (answer.Pinned x.0 x.1) (answer.Pinned y.0 y.1) f g r s x.2.0 y.2.0 h in
    let pin : x.0 ≡ y.0 = cc (same) in
    let version : x.1 ≡ y.1 = cc (same) in
    (cc (same), cc (x.2.1, y.2.1, version), cc (x.2.2, y.2.2, pin, version))
one_goes versions Nothing (PinAt u) f g r s v w o p (inl x) (inl y) h l m = both_refused [] 2 f g r s v w o p x y l m
one_goes versions Nothing (PinAt u) f g r s v w o p (inl x) (inr (inl y)) h l m = absurd (not_at_end 2 f g r s v o (call.PinAt u) (answer.Pinned y.0 y.1) [] x l y.2.0 h)
one_goes versions Nothing (PinAt u) f g r s v w o p (inl x) (inr (inr (inl y))) h l m = absurd (not_at_end 2 f g r s v o (call.PinAt u) (answer.NoVersion y.0) [] x l y.1.0 h)
one_goes versions Nothing (PinAt u) f g r s v w o p (inl x) (inr (inr (inr y))) h l m = absurd (not_at_end 2 f g r s v o (call.PinAt u) (answer.Gone y.0) [] x l y.1.0 h)
one_goes versions Nothing (PinAt u) f g r s v w o p (inr (inl x)) (inl y) h l m = absurd (not_at_end 2 g f s r w p (call.PinAt u) (answer.Pinned x.0 x.1) [] y m x.2.0 (sym h))
one_goes versions Nothing (PinAt u) f g r s v w o p (inr (inl x)) (inr (inl y)) h l m =
    let same : Told (call.PinAt u) (answer.Pinned x.0 x.1) ∷ r ≡ Told (call.PinAt u) (answer.Pinned y.0 y.1) ∷ s = joined (call.PinAt u) (answer.Pinned x.0 x.1) (answer.Pinned y.0 y.1) f g r s x.2.0 y.2.0 h in
    let pin : x.0 ≡ y.0 = cc (same) in
    let version : x.1 ≡ y.1 = cc (same) in
    (cc (same), cc (x.2.1, y.2.1, version), cc (x.2.2, y.2.2, pin, version))
one_goes versions Nothing (PinAt u) f g r s v w o p (inr (inl x)) (inr (inr (inl y))) h l m =
    let same : Told (call.PinAt u) (answer.Pinned x.0 x.1) ∷ r ≡ Told (call.PinAt u) (answer.NoVersion y.0) ∷ s = joined (call.PinAt u) (answer.Pinned x.0 x.1) (answer.NoVersion y.0) f g r s x.2.0 y.1.0 h in absurd (cc (same))
one_goes versions Nothing (PinAt u) f g r s v w o p (inr (inl x)) (inr (inr (inr y))) h l m =
    let same : Told (call.PinAt u) (answer.Pinned x.0 x.1) ∷ r ≡ Told (call.PinAt u) (answer.Gone y.0) ∷ s = joined (call.PinAt u) (answer.Pinned x.0 x.1) (answer.Gone y.0) f g r s x.2.0 y.1.0 h in absurd (cc (same))
one_goes versions Nothing (PinAt u) f g r s v w o p (inr (inr (inl x))) (inl y) h l m = absurd (not_at_end 2 g f s r w p (call.PinAt u) (answer.NoVersion x.0) [] y m x.1.0 (sym h))
one_goes versions Nothing (PinAt u) f g r s v w o p (inr (inr (inl x))) (inr (inl y)) h l m =
    let same : Told (call.PinAt u) (answer.NoVersion x.0) ∷ r ≡ Told (call.PinAt u) (answer.Pinned y.0 y.1) ∷ s = joined (call.PinAt u) (answer.NoVersion x.0) (answer.Pinned y.0 y.1) f g r s x.1.0 y.2.0 h in absurd (cc (same))
one_goes versions Nothing (PinAt u) f g r s v w o p (inr (inr (inl x))) (inr (inr (inl y))) h l m =
    let same : Told (call.PinAt u) (answer.NoVersion x.0) ∷ r ≡ Told (call.PinAt u) (answer.NoVersion y.0) ∷ s = joined (call.PinAt u) (answer.NoVersion x.0) (answer.NoVersion y.0) f g r s x.1.0 y.1.0 h in
    let last : x.0 ≡ y.0 = cc (same) in
    (cc (same), cc (x.1.1, y.1.1, last), cc (x.1.2, y.1.2))
one_goes versions Nothing (PinAt u) f g r s v w o p (inr (inr (inl x))) (inr (inr (inr y))) h l m =
    let same : Told (call.PinAt u) (answer.NoVersion x.0) ∷ r ≡ Told (call.PinAt u) (answer.Gone y.0) ∷ s = joined (call.PinAt u) (answer.NoVersion x.0) (answer.Gone y.0) f g r s x.1.0 y.1.0 h in absurd (cc (same))
one_goes versions Nothing (PinAt u) f g r s v w o p (inr (inr (inr x))) (inl y) h l m = absurd (not_at_end 2 g f s r w p (call.PinAt u) (answer.Gone x.0) [] y m x.1.0 (sym h))
one_goes versions Nothing (PinAt u) f g r s v w o p (inr (inr (inr x))) (inr (inl y)) h l m =
    let same : Told (call.PinAt u) (answer.Gone x.0) ∷ r ≡ Told (call.PinAt u) (answer.Pinned y.0 y.1) ∷ s = joined (call.PinAt u) (answer.Gone x.0) (answer.Pinned y.0 y.1) f g r s x.1.0 y.2.0 h in absurd (cc (same))
one_goes versions Nothing (PinAt u) f g r s v w o p (inr (inr (inr x))) (inr (inr (inl y))) h l m =
    let same : Told (call.PinAt u) (answer.Gone x.0) ∷ r ≡ Told (call.PinAt u) (answer.NoVersion y.0) ∷ s = joined (call.PinAt u) (answer.Gone x.0) (answer.NoVersion y.0) f g r s x.1.0 y.1.0 h in absurd (cc (same))
one_goes versions Nothing (PinAt u) f g r s v w o p (inr (inr (inr x))) (inr (inr (inr y))) h l m =
    let same : Told (call.PinAt u) (answer.Gone x.0) ∷ r ≡ Told (call.PinAt u) (answer.Gone y.0) ∷ s = joined (call.PinAt u) (answer.Gone x.0) (answer.Gone y.0) f g r s x.1.0 y.1.0 h in
    let least : x.0 ≡ y.0 = cc (same) in
    (cc (same), cc (x.1.1, y.1.1, least), cc (x.1.2, y.1.2))
one_goes versions (OnPin pin u) (Walk limit) f g r s v w o p x y h l m = both_silent _ _ f g r s v w o p x y h
one_goes versions (OnPin pin u) Release f g r s v w o p x y h l m = both_release pin _ _ f g r s v w o p x y h
one_goes versions OffPin (Walk limit) f g r s v w o p x y h l m = both_silent _ _ f g r s v w o p x y h
one_goes versions OffPin Release f g r s v w o p x y h l m = both_silent _ _ f g r s v w o p x y h
one_goes versions (InBlock pin u n ops) Collect f g r s v w o p x y h l m = absurd x
one_goes versions Nothing Collect f g r s v w o p x y h l m = both_collect Nothing f g r s v w o p x y h l m
one_goes versions (OnPin pin u) Collect f g r s v w o p x y h l m = both_collect (OnPin pin u) f g r s v w o p x y h l m
one_goes versions OffPin Collect f g r s v w o p x y h l m = both_collect OffPin f g r s v w o p x y h l m
one_goes versions held step f g r s v w o p x y h l m = absurd x

pub one_run : (versions : ℕ → Design) (held : Held) (steps : List Step) (done : List Exchange) (v w : List Word) (a b : Ending)
    → Runs versions held steps done v a → Runs versions held steps done w b → (v ≡ w) × (a ≡ b)
one_run versions held [] done v w a b x y = (x.1 ∙ sym y.1, x.2 ∙ sym y.2)
one_run versions held (step ∷ steps) done v w a b (inl x) (inl y) =
    let same : Agree [] [] v w (Stop x.0) (Stop y.0) = one_goes versions held step done done [] [] v w (Stop x.0) (Stop y.0) x.1 y.1 refl refl refl in
    let outcome : Stop x.0 ≡ Stop y.0 = same.2 in
    let places : x.0 ≡ y.0 = cc (outcome) in
    (same.1, x.2 ∙ ap Full places ∙ sym y.2)
one_run versions held (step ∷ steps) done v w a b (inl x) (inr y) =
    let same : Agree [] y.2 v y.3 (Stop x.0) (On y.0) =
    one_goes versions held step done y.1 [] y.2 v y.3 (Stop x.0) (On y.0) x.1 y.7 (append-nil done ∙ y.5) refl tt in
    let outcome : Stop x.0 ≡ On y.0 = same.2 in absurd (cc (outcome))
one_run versions held (step ∷ steps) done v w a b (inr x) (inl y) =
    let same : Agree [] x.2 w x.3 (Stop y.0) (On x.0) =
    one_goes versions held step done x.1 [] x.2 w x.3 (Stop y.0) (On x.0) y.1 x.7 (append-nil done ∙ x.5) refl tt in
    let outcome : Stop y.0 ≡ On x.0 = same.2 in absurd (cc (outcome))
one_run versions held (step ∷ steps) done v w a b (inr x) (inr y) =
    let same : Agree x.2 y.2 x.3 y.3 (On x.0) (On y.0) =
    one_goes versions held step x.1 y.1 x.2 y.2 x.3 y.3 (On x.0) (On y.0) x.7 y.7 (sym x.5 ∙ y.5) tt tt in
    let outcome : On x.0 ≡ On y.0 = same.2 in
    let held_then : x.0 ≡ y.0 = cc (outcome) in
    let theirs : Runs versions x.0 steps x.2 y.4 b =
    subst (λ (e : List Exchange). Runs versions x.0 steps e y.4 b) (sym same.0) (subst (λ (k : Held). Runs versions k steps y.2 y.4 b) (sym held_then) y.8) in
    let then : (x.4 ≡ y.4) × (a ≡ b) = one_run versions x.0 steps x.2 x.4 y.4 a b x.8 theirs in
    (x.6 ∙ ap (λ (z : List Word). z ++ x.4) same.1 ∙ ap (λ (z : List Word). y.3 ++ z) then.0 ∙ sym y.6, then.1)
