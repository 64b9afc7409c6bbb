-- A script says one thing of its caller's events.
use Rattle.std.proofs.Common.{◌≡◌, ◌∙◌, ℕ, zero, suc, List, [], ◌∷◌, ◌++◌, inl, inr, ap, sym, subst}
use Rattle.std.specs.Prelude.{◌⊎◌}
use Rattle.netlist_schema.specs.Design.{Design}
use Rattle.netlist_schema.specs.Types.{Object}
use Rattle.edit_spec.specs.declared.ops.Op.{Op}
use Rattle.db_spec.specs.declared.event.Answer.{Answer}
use Rattle.db_spec.specs.declared.event.Answer.TheVariants as answer
use Rattle.db_spec.specs.declared.event.Call.{Call}
use Rattle.db_spec.specs.declared.event.Call.TheVariants as call
use Rattle.script_spec.specs.Session.{Word, Began, Held, Nothing, OnPin, OffPin, InBlock, Outcome, On, Stop, Exchange, Told, release, last_release, Refused, Accepts, GivesUp, BeginsAgain, Commits, replied}

-- where the session stops nothing is left
abbrev pub IsLast : Outcome → List Exchange → Type 0
IsLast (On held) rest = Unit {0}
IsLast (Stop places) rest = rest ≡ []

-- two ways to go on that take the same exchanges
abbrev pub Agree : List Exchange → List Exchange → List Word → List Word → Outcome → Outcome → Type 0
Agree r s v w o p = (r ≡ s) × (v ≡ w) × (o ≡ p)

-- the call is no release
abbrev pub IsOther : Call → Type 0
IsOther c = (pin : ℕ) → c ≡ call.Release pin → ⊥

pub other_pin : IsOther call.Pin
other_pin pin e = cc (e)

pub other_pin_at : (v : ℕ) → IsOther (call.PinAt v)
other_pin_at v pin e = cc (e)

pub other_collect : IsOther call.Collect
other_collect pin e = cc (e)

other_commit : (n : ℕ) (ops : List Op) → IsOther (call.Commit n ops)
other_commit n ops pin e = cc (e)

-- ---- refused calls

none_left : (left : List Exchange) (places : ℕ) (f r : List Exchange) (w : List Word) (o : Outcome) → Refused left places f w o → IsLast o r → r ≡ []
none_left left places f r w o p last = subst (λ (x : Outcome). IsLast x r) p.2 last

pub both_refused : (left : List Exchange) (places : ℕ) (f g r s : List Exchange) (v w : List Word) (o p : Outcome)
    → Refused left places f v o → Refused left places g w p → IsLast o r → IsLast p s → Agree r s v w o p
both_refused left places f g r s v w o p x y l m =
    let a = none_left left places f r v o x l in
    let b = none_left left places g s w p y m in
    (cc (a, b), cc (x.1, y.1), cc (x.2, y.2))

-- where nothing, or only a release is left, no other call is next
pub not_at_end : (places : ℕ) (f g r s : List Exchange) (v : List Word) (o : Outcome) (c : Call) (a : Answer) (xs : List Exchange)
    → Refused [] places f v o → IsLast o r → g ≡ Told c a ∷ xs → f ++ r ≡ g ++ s → ⊥
not_at_end places f g r s v o c a xs x l e h = let n = none_left [] places f r v o x l in cc (x.0, n, e, h)

not_at_release : (pin places : ℕ) (f g r s : List Exchange) (v : List Word) (o : Outcome) (c : Call) (a : Answer) (xs : List Exchange)
    → IsOther c → Refused (release pin ∷ []) places f v o → g ≡ Told c a ∷ xs → f ++ r ≡ g ++ s → ⊥
not_at_release pin places f g r s v o c a xs other x e h =
    let same : Told (call.Release pin) answer.Released ∷ r ≡ Told c a ∷ (xs ++ s) = ap (λ y. y ++ r) (sym x.0) ∙ h ∙ ap (λ y. y ++ s) e in
    let calls : call.Release pin ≡ c = cc (same) in
    other pin (sym calls)

-- for what a collect may find held
pub not_at_last : (held : Held) (places : ℕ) (f g r s : List Exchange) (v : List Word) (o : Outcome) (c : Call) (a : Answer) (xs : List Exchange)
    → IsOther c → Refused (last_release held) places f v o → IsLast o r → g ≡ Told c a ∷ xs → f ++ r ≡ g ++ s → ⊥
not_at_last Nothing places f g r s v o c a xs other x l e h = not_at_end places f g r s v o c a xs x l e h
not_at_last (OnPin pin u) places f g r s v o c a xs other x l e h = not_at_release pin places f g r s v o c a xs other x e h
not_at_last OffPin places f g r s v o c a xs other x l e h = not_at_end places f g r s v o c a xs x l e h
not_at_last (InBlock pin u n ops) places f g r s v o c a xs other x l e h = not_at_release pin places f g r s v o c a xs other x e h

-- ---- a block

both_accept : (ops : List Op) (pin : ℕ) (f g r s : List Exchange) (v w : List Word) (o p : Outcome)
    → Accepts ops pin f v o → Accepts ops pin g w p → f ++ r ≡ g ++ s → Agree r s v w o p
both_accept ops pin f g r s v w o p x y h =
    let same : Told (call.Commit pin ops) (answer.Committed x.0 x.1) ∷ release pin ∷ r ≡ Told (call.Commit pin ops) (answer.Committed y.0 y.1) ∷ release pin ∷ s =
    ap (λ z. z ++ r) (sym x.2.0) ∙ h ∙ ap (λ z. z ++ s) y.2.0 in
    let version : x.0 ≡ y.0 = cc (same) in
    (cc (same), cc (x.2.1, y.2.1, version), cc (x.2.2, y.2.2))

both_give_up : (ops : List Op) (pin : ℕ) (f g r s : List Exchange) (v w : List Word) (o p : Outcome)
    → GivesUp ops pin f v o → GivesUp ops pin g w p → f ++ r ≡ g ++ s → Agree r s v w o p
both_give_up ops pin f g r s v w o p x y h =
    let same : Told (call.Commit pin ops) (answer.Conflict x.0 x.1) ∷ release pin ∷ r ≡ Told (call.Commit pin ops) (answer.Conflict y.0 y.1) ∷ release pin ∷ s =
    ap (λ z. z ++ r) (sym x.2.0) ∙ h ∙ ap (λ z. z ++ s) y.2.0 in
    let object : x.0 ≡ y.0 = cc (same) in
    let version : x.1 ≡ y.1 = cc (same) in
    (cc (same), cc (x.2.1, y.2.1, object, version), cc (x.2.2, y.2.2))

-- an accepted commit is no conflict
apart : (ops : List Op) (pin : ℕ) (f g r s : List Exchange) (v : List Word) (o : Outcome) (object : Object) (u : ℕ) (more : List Exchange)
    → Accepts ops pin f v o → g ≡ Told (call.Commit pin ops) (answer.Conflict object u) ∷ more → f ++ r ≡ g ++ s → ⊥
apart ops pin f g r s v o object u more x e h =
    let same : Told (call.Commit pin ops) (answer.Committed x.0 x.1) ∷ release pin ∷ r ≡ Told (call.Commit pin ops) (answer.Conflict object u) ∷ (more ++ s) =
    ap (λ z. z ++ r) (sym x.2.0) ∙ h ∙ ap (λ z. z ++ s) e in cc (same)

-- what comes after the release
abbrev Rest : (ℕ → Design) → List Op → ℕ → List Exchange → List Word → Outcome → Type 0
Rest versions ops retries rest more o =
    Refused [] 2 rest more o ⊎ BeginsAgain versions ops rest more (λ next others words. Commits versions ops retries next others words o)

abbrev OneCommit : (ℕ → Design) → List Op → ℕ → Type 0
OneCommit versions ops retries = (pin : ℕ) (f g r s : List Exchange) (v w : List Word) (o p : Outcome)
    → Commits versions ops retries pin f v o → Commits versions ops retries pin g w p → f ++ r ≡ g ++ s → IsLast o r → IsLast p s → Agree r s v w o p

one_rest : (versions : ℕ → Design) (ops : List Op) (retries : ℕ) → OneCommit versions ops retries → (f g r s : List Exchange) (v w : List Word) (o p : Outcome)
    → Rest versions ops retries f v o → Rest versions ops retries g w p → f ++ r ≡ g ++ s → IsLast o r → IsLast p s → Agree r s v w o p
one_rest versions ops retries one f g r s v w o p (inl x) (inl y) h l m = both_refused [] 2 f g r s v w o p x y l m
one_rest versions ops retries one f g r s v w o p (inl x) (inr y) h l m =
    absurd (not_at_end 2 f g r s v o call.Pin (answer.Pinned y.0 y.1) y.2 x l y.4 h)
one_rest versions ops retries one f g r s v w o p (inr x) (inl y) h l m =
    absurd (not_at_end 2 g f s r w p call.Pin (answer.Pinned x.0 x.1) x.2 y m x.4 (sym h))
one_rest versions ops retries one f g r s v w o p (inr x) (inr y) h l m =
    let same : Told call.Pin (answer.Pinned x.0 x.1) ∷ (x.2 ++ r) ≡ Told call.Pin (answer.Pinned y.0 y.1) ∷ (y.2 ++ s) =
    ap (λ z. z ++ r) (sym x.4) ∙ h ∙ ap (λ z. z ++ s) y.4 in
    let pin : x.0 ≡ y.0 = cc (same) in
    let version : x.1 ≡ y.1 = cc (same) in
    let rests : x.2 ++ r ≡ y.2 ++ s = cc (same) in
    let then : Agree r s x.3 y.3 o p = one y.0 x.2 y.2 r s x.3 y.3 o p (subst (λ (n : ℕ). Commits versions ops retries n x.2 x.3 o) pin x.6) y.6 rests l m in
    (then.0, x.5 ∙ ap (λ (n : ℕ). Began n ∷ replied (versions n) ops ++ x.3) version ∙ ap (λ (z : List Word). Began y.1 ∷ replied (versions y.1) ops ++ z) then.1 ∙ sym y.5, then.2)

pub one_commit : (versions : ℕ → Design) (ops : List Op) (retries : ℕ) → OneCommit versions ops retries
one_commit versions ops zero pin f g r s v w o p (inl x) (inl y) h l m = both_refused (release pin ∷ []) 1 f g r s v w o p x y l m
one_commit versions ops zero pin f g r s v w o p (inl x) (inr (inl y)) h l m =
    absurd (not_at_release pin 1 f g r s v o (call.Commit pin ops) (answer.Committed y.0 y.1) (release pin ∷ []) (other_commit pin ops) x y.2.0 h)
one_commit versions ops zero pin f g r s v w o p (inl x) (inr (inr y)) h l m =
    absurd (not_at_release pin 1 f g r s v o (call.Commit pin ops) (answer.Conflict y.0 y.1) (release pin ∷ []) (other_commit pin ops) x y.2.0 h)
one_commit versions ops zero pin f g r s v w o p (inr (inl x)) (inl y) h l m =
    absurd (not_at_release pin 1 g f s r w p (call.Commit pin ops) (answer.Committed x.0 x.1) (release pin ∷ []) (other_commit pin ops) y x.2.0 (sym h))
one_commit versions ops zero pin f g r s v w o p (inr (inl x)) (inr (inl y)) h l m = both_accept ops pin f g r s v w o p x y h
one_commit versions ops zero pin f g r s v w o p (inr (inl x)) (inr (inr y)) h l m = absurd (apart ops pin f g r s v o y.0 y.1 (release pin ∷ []) x y.2.0 h)
one_commit versions ops zero pin f g r s v w o p (inr (inr x)) (inl y) h l m =
    absurd (not_at_release pin 1 g f s r w p (call.Commit pin ops) (answer.Conflict x.0 x.1) (release pin ∷ []) (other_commit pin ops) y x.2.0 (sym h))
one_commit versions ops zero pin f g r s v w o p (inr (inr x)) (inr (inl y)) h l m = absurd (apart ops pin g f s r w p x.0 x.1 (release pin ∷ []) y x.2.0 (sym h))
one_commit versions ops zero pin f g r s v w o p (inr (inr x)) (inr (inr y)) h l m = both_give_up ops pin f g r s v w o p x y h
one_commit versions ops (suc n) pin f g r s v w o p (inl x) (inl y) h l m = both_refused (release pin ∷ []) 1 f g r s v w o p x y l m
one_commit versions ops (suc n) pin f g r s v w o p (inl x) (inr (inl y)) h l m =
    absurd (not_at_release pin 1 f g r s v o (call.Commit pin ops) (answer.Committed y.0 y.1) (release pin ∷ []) (other_commit pin ops) x y.2.0 h)
one_commit versions ops (suc n) pin f g r s v w o p (inl x) (inr (inr y)) h l m =
    absurd (not_at_release pin 1 f g r s v o (call.Commit pin ops) (answer.Conflict y.0 y.1) (release pin ∷ y.2) (other_commit pin ops) x y.4 h)
one_commit versions ops (suc n) pin f g r s v w o p (inr (inl x)) (inl y) h l m =
    absurd (not_at_release pin 1 g f s r w p (call.Commit pin ops) (answer.Committed x.0 x.1) (release pin ∷ []) (other_commit pin ops) y x.2.0 (sym h))
one_commit versions ops (suc n) pin f g r s v w o p (inr (inl x)) (inr (inl y)) h l m = both_accept ops pin f g r s v w o p x y h
one_commit versions ops (suc n) pin f g r s v w o p (inr (inl x)) (inr (inr y)) h l m = absurd (apart ops pin f g r s v o y.0 y.1 (release pin ∷ y.2) x y.4 h)
one_commit versions ops (suc n) pin f g r s v w o p (inr (inr x)) (inl y) h l m =
    absurd (not_at_release pin 1 g f s r w p (call.Commit pin ops) (answer.Conflict x.0 x.1) (release pin ∷ x.2) (other_commit pin ops) y x.4 (sym h))
one_commit versions ops (suc n) pin f g r s v w o p (inr (inr x)) (inr (inl y)) h l m = absurd (apart ops pin g f s r w p x.0 x.1 (release pin ∷ x.2) y x.4 (sym h))
one_commit versions ops (suc n) pin f g r s v w o p (inr (inr x)) (inr (inr y)) h l m =
    let same : Told (call.Commit pin ops) (answer.Conflict x.0 x.1) ∷ release pin ∷ (x.2 ++ r) ≡ Told (call.Commit pin ops) (answer.Conflict y.0 y.1) ∷ release pin ∷ (y.2 ++ s) =
    ap (λ z. z ++ r) (sym x.4) ∙ h ∙ ap (λ z. z ++ s) y.4 in
    let object : x.0 ≡ y.0 = cc (same) in
    let version : x.1 ≡ y.1 = cc (same) in
    let rests : x.2 ++ r ≡ y.2 ++ s = cc (same) in
    let then : Agree r s x.3 y.3 o p = one_rest versions ops n (one_commit versions ops n) x.2 y.2 r s x.3 y.3 o p x.6 y.6 rests l m in
    (then.0, cc (x.5, y.5, object, version, then.1), then.2)
