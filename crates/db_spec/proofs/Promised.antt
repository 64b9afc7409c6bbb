-- The laws, as they are promised.
use Rattle.std.proofs.Common.{◌≡◌, ℕ, ◌+◌, ◌-◌, ◌≤◌, List, [], ◌∷◌, ◌++◌, map, inl, inr, ap, sym, ◌∙◌, subst, arith}
use Rattle.std.specs.List.{All}
use Rattle.std.proofs.lemmas.Bool.{cases_lt}
use Rattle.std.proofs.lemmas.List.Elements.{All-head, All-tail}
use Rattle.netlist_schema.specs.Design.{Design}
use Rattle.netlist_schema.specs.Valid.{IsValid}
use Rattle.edit_spec.specs.Frame.{IsReplayed}
use Rattle.edit_rules_spec.specs.Objects.{IsClosed}
use Rattle.edit_spec.specs.Step.{run}
use Rattle.edit_spec.specs.Typed.{IsTypedOp}
use Rattle.edit_spec.specs.declared.ops.Op.{Op}
use Rattle.edit_rules_spec.specs.declared.reply.Reply.{Reply}
use Rattle.edit_spec.proofs.Values.{run_keeps_valid}
use Rattle.db_spec.specs.declared.event.Call.{Call}
use Rattle.db_spec.specs.declared.event.Call.TheVariants.{Pin, PinAt, Release, Collect, Commit}
use Rattle.db_spec.specs.declared.event.Answer.{Answer}
use Rattle.db_spec.specs.declared.event.Answer.TheVariants.{Pinned, Released, Collected, Committed}
use Rattle.db_spec.specs.declared.event.Event.{Event}
use Rattle.db_spec.specs.State.{State, LivePin, Version, opening, head, design, version, live_pin, changed, committed, after, IsLive}
use Rattle.db_spec.specs.Answers.{Answers, HasNoConflict, HasRoom, places}
use Rattle.db_spec.specs.History.{Legal, state_from, state_after, version_at}
use Rattle.db_spec.specs.Laws.{IsGrowing, IsTypedCall, accepted, asked}
use Rattle.db_spec.proofs.Histories.{goes_on_from, legal-left, legal-right, one_more_is_legal, state_from-append}
use Rattle.db_spec.proofs.OneAnswer as one
use Rattle.db_spec.proofs.Sound.{fine_opening, kept_up_after, never_falls, one_pin}
use Rattle.db_spec.proofs.Versions.{follows_after, closed_versions, grown_on, replayed, version_new, version_old, head_new}

first_is : (d : Design) (xs : List Event) → (state_after d xs).first ≡ d
first_is d xs = (goes_on_from (opening d) xs).first

closed_first : (d : Design) (xs : List Event) → IsClosed d → IsClosed (state_after d xs).first
closed_first d xs closed = subst IsClosed (sym (first_is d xs)) closed

pub closed_at : (d : Design) (xs : List Event) (v : ℕ) → IsClosed d → v ≤ head (state_after d xs) → IsClosed (version_at d xs v)
closed_at d xs v closed le = closed_versions (state_after d xs) (follows_after d xs) (closed_first d xs closed) v le

pub growth : (d : Design) (xs ys : List Event) → Legal d (xs ++ ys) → IsGrowing d xs ys
growth d xs ys legal =
    let begun = legal-left (opening d) xs ys legal in
    let rest = legal-right (opening d) xs ys legal in
    let all = kept_up_after d (xs ++ ys) legal in record {
      never_falls = subst (λ (s : State). places (state_after d xs) ≤ places s) (sym (state_from-append (opening d) xs ys)) (never_falls (state_after d xs) ys (kept_up_after d xs begun) rest);
      within = all.within;
      grown = λ v w le top. grown_on (state_after d xs) (follows_after d xs) v (w - v) w (omega arith) top;
    }

full_on : (s t : State) (call : Call) → places s ≤ places t → ¬ HasRoom s call → ¬ HasRoom t call
full_on s t Pin le full room = full (omega arith)
full_on s t (PinAt v) le full room = full (omega arith)
full_on s t (Release number) le full room = full tt
full_on s t Collect le full room = full (omega arith)
full_on s t (Commit number ops) le full room = full (omega arith)

pub full_stays_full : (d : Design) (xs ys : List Event) (call : Call) → Legal d (xs ++ ys) → ¬ HasRoom (state_after d xs) call → ¬ HasRoom (state_after d (xs ++ ys)) call
full_stays_full d xs ys call legal full = full_on (state_after d xs) (state_after d (xs ++ ys)) call ((growth d xs ys legal).never_falls) full

-- a live pin's version is there
live_there : (d : Design) (xs : List Event) (number caller v : ℕ) → Legal d xs → IsLive (state_after d xs) number caller v → v ≤ head (state_after d xs)
live_there d xs number caller v legal live =
    let up = kept_up_after d xs legal in
    let fine = up.fine in fine.there v (fine.pinned_kept (live_pin number caller v) live)

pub replies_on_head : (d : Design) (xs : List Event) (caller number v : ℕ) (ops : List Op) → IsClosed d → Legal d xs → IsLive (state_after d xs) number caller v
    → HasNoConflict (state_after d xs) v ops → IsReplayed (version_at d xs v) (version_at d xs (head (state_after d xs))) ops
replies_on_head d xs caller number v ops closed legal live free =
    replayed (state_after d xs) (follows_after d xs) (closed_first d xs closed) v ops (live_there d xs number caller v legal live) free

pub accepted_replies : (d : Design) (xs : List Event) (caller number v : ℕ) (ops : List Op) (version : ℕ) (replies : List Reply) → IsClosed d
    → Legal d (xs ++ accepted caller number ops version replies ∷ []) → IsLive (state_after d xs) number caller v → replies ≡ (run (version_at d xs v) ops).replies
accepted_replies d xs caller number v ops version replies closed legal live =
    let s = state_after d xs in
    let parts = (one_more_is_legal d xs (accepted caller number ops version replies)).0 legal in
    let admits = parts.1 in
    let answer : Answers s caller (Commit number ops) (Committed version replies) = admits.answers in
    let fine = (kept_up_after d xs parts.0).fine in
    let at : answer.0 ≡ v = ap (λ (p : LivePin). p.version) (one_pin s number caller answer.0 caller v fine answer.1 live) in
    let same = replies_on_head d xs caller number v ops closed parts.0 live (subst (λ w. HasNoConflict s w ops) at answer.2) in
    answer.4 ∙ sym same.replies

pub one_answer : (d : Design) (xs : List Event) (caller : ℕ) (call : Call) (a b : Answer) → Legal d xs → Answers (state_after d xs) caller call a → Answers (state_after d xs) caller call b → a ≡ b
one_answer d xs caller call a b legal x y = one.one_answer (state_after d xs) caller call a b ((kept_up_after d xs legal).fine) x y

pub one_history : (d : Design) (xs ys : List Event) → Legal d xs → Legal d ys → map asked xs ≡ map asked ys → xs ≡ ys
one_history d xs ys p q e = one.one_history (opening d) xs ys (fine_opening d) p q e

-- ---- valid versions

abbrev AllValid : State → Type 0
AllValid s = (v : ℕ) → v ≤ head s → IsValid (design s v)

valid_committed : (s : State) (ops : List Op) → All IsTypedOp ops → AllValid s → AllValid (committed s ops)
valid_committed s ops typed h v le = elim (cases_lt v (head s + 1)) [
  | inl old ↦ subst (λ (x : Version). IsValid x.design) (sym (version_old s ops v (omega arith))) (h v (omega arith))
  | inr last ↦
      let at : v ≡ head s + 1 = omega (arith, head_new s ops) in
      subst (λ (w : ℕ). IsValid (design (committed s ops) w)) (sym at)
      (subst (λ (x : Version). IsValid x.design) (sym (version_new s ops)) (run_keeps_valid (design s (head s)) ops typed (h (head s) (omega arith))))
]

valid_changed : (s : State) (caller : ℕ) (call : Call) (answer : Answer) → IsTypedCall call → AllValid s → AllValid (changed s caller call answer)
valid_changed s caller call (Pinned number v) typed h = h
valid_changed s caller (Release number) Released typed h = h
valid_changed s caller Collect (Collected count) typed h = h
valid_changed s caller (Commit number ops) (Committed v replies) typed h = valid_committed s ops typed h
valid_changed s caller call answer typed h = h

valid_from : (s : State) (xs : List Event) → All (λ event. IsTypedCall event.call) xs → AllValid s → AllValid (state_from s xs)
valid_from s [] typed h = h
valid_from s (x ∷ xs) typed h =
    valid_from (after s x) xs (All-tail (λ (event : Event). IsTypedCall event.call) x xs typed)
    (valid_changed s x.caller x.call x.answer (All-head (λ (event : Event). IsTypedCall event.call) x xs typed) h)

pub valid_at : (d : Design) (xs : List Event) (v : ℕ) → IsValid d → All (λ event. IsTypedCall event.call) xs → v ≤ head (state_after d xs) → IsValid (version_at d xs v)
valid_at d xs v valid typed le = valid_from (opening d) xs typed (λ w low. let at : w ≡ 0 = omega arith in subst (λ (u : ℕ). IsValid (design (opening d) u)) (sym at) valid) v le
