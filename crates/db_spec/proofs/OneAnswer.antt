-- A call has one answer, so the callers and their calls determine a legal history.
use Rattle.std.proofs.Common.{◌≡◌, ℕ, ◌+◌, ◌<◌, ◌≤◌, List, [], ◌∷◌, map, refl, ap, sym, ◌∙◌, subst, arith}
use Rattle.netlist_schema.specs.Types.{Object}
use Rattle.edit_spec.specs.Step.{run}
use Rattle.edit_spec.specs.declared.ops.Op.{Op}
use Rattle.edit_rules_spec.specs.declared.reply.Reply.{Reply}
use Rattle.db_spec.specs.declared.event.Call.{Call}
use Rattle.db_spec.specs.declared.event.Call.TheVariants.{Pin, PinAt, Release, Collect, Commit}
use Rattle.db_spec.specs.declared.event.Answer.{Answer}
use Rattle.db_spec.specs.declared.event.Answer.TheVariants.{Pinned, NoVersion, Gone, Released, Collected, Committed, Conflict}
use Rattle.db_spec.specs.declared.event.Event.{Event}
use Rattle.db_spec.specs.State.{State, LivePin, head, design, after, IsLive}
use Rattle.db_spec.specs.Answers.{Answers, IsKept, IsLeastKept, IsConflict, HasNoConflict, dropped}
use Rattle.db_spec.specs.History.{IsLegalFrom}
use Rattle.db_spec.specs.Laws.{asked}
use Rattle.netlist_schema.proofs.Objects.{same_object}
use Rattle.db_spec.proofs.Sound.{IsFine, fine_after, one_pin}

after_pin : (s : State) (caller : ℕ) (b : Answer) → Answers s caller Pin b → b ≡ Pinned s.made (head s)
after_pin s caller (Pinned number v) a = ap (λ n. Pinned n v) a.0 ∙ ap (λ w. Pinned s.made w) a.1
after_pin s caller other a = absurd a

past_head : (s : State) (caller wanted : ℕ) (b : Answer) → head s < wanted → Answers s caller (PinAt wanted) b → b ≡ NoVersion (head s)
past_head s caller wanted (NoVersion last) lt a = ap NoVersion a.1
past_head s caller wanted (Gone least) lt a = absurd (omega (arith, a.0))
past_head s caller wanted (Pinned number v) lt a = absurd (omega (arith, a.0))
past_head s caller wanted other lt a = absurd a

one_least : (s : State) (v w : ℕ) → IsLeastKept s v → IsLeastKept s w → v ≡ w
one_least s v w a b =
    let low = a.least w b.kept in
    let high = b.least v a.kept in omega arith

is_gone : (s : State) (caller wanted least : ℕ) (b : Answer) → wanted ≤ head s → (¬ IsKept s wanted) → IsLeastKept s least → Answers s caller (PinAt wanted) b → b ≡ Gone least
is_gone s caller wanted least (NoVersion last) le gone is a = absurd (omega (arith, a.0))
is_gone s caller wanted least (Gone other) le gone is a = ap Gone (one_least s other least a.2 is)
is_gone s caller wanted least (Pinned number v) le gone is a = absurd (gone a.1)
is_gone s caller wanted least other le gone is a = absurd a

is_kept : (s : State) (caller wanted : ℕ) (b : Answer) → wanted ≤ head s → IsKept s wanted → Answers s caller (PinAt wanted) b → b ≡ Pinned s.made wanted
is_kept s caller wanted (NoVersion last) le kept a = absurd (omega (arith, a.0))
is_kept s caller wanted (Gone other) le kept a = absurd (a.1 kept)
is_kept s caller wanted (Pinned number v) le kept a = ap (λ n. Pinned n v) a.2 ∙ ap (λ w. Pinned s.made w) a.3
is_kept s caller wanted other le kept a = absurd a

after_release : (s : State) (caller number : ℕ) (b : Answer) → Answers s caller (Release number) b → b ≡ Released
after_release s caller number Released a = refl
after_release s caller number other a = absurd a

after_collect : (s : State) (caller : ℕ) (b : Answer) → Answers s caller Collect b → b ≡ Collected (dropped s)
after_collect s caller (Collected count) is = ap Collected is
after_collect s caller other is = absurd is

-- a pin of one caller is on one version
one_version : (s : State) (number caller v w : ℕ) → IsFine s → IsLive s number caller v → IsLive s number caller w → v ≡ w
one_version s number caller v w h a b = ap (λ (p : LivePin). p.version) (one_pin s number caller v caller w h a b)

in_conflict : (s : State) (caller number v : ℕ) (ops : List Op) (object : Object) (w : ℕ) (b : Answer) → IsFine s → IsLive s number caller v → IsConflict s v ops object w → Answers s caller (Commit number ops) b → b ≡ Conflict object w
in_conflict s caller number v ops object w (Conflict other u) h live is a =
    let theirs : IsConflict s v ops other u = subst (λ x. IsConflict s x ops other u) (one_version s number caller a.0 v h a.1 live) a.2 in
    let same : other ≡ object = same_object other object (theirs.least object w is.clashes) (is.least other u theirs.clashes) in
    let mine : IsConflict s v ops other w = subst (λ o. IsConflict s v ops o w) (sym same) is in
    let early = mine.greatest u theirs.clashes in
    let late = theirs.greatest w mine.clashes in
    let when : u ≡ w = omega arith in
    ap (λ o. Conflict o u) same ∙ ap (λ x. Conflict object x) when
in_conflict s caller number v ops object w (Committed last replies) h live is a =
    absurd (subst (λ x. HasNoConflict s x ops) (one_version s number caller a.0 v h a.1 live) a.2 object w is.clashes)
in_conflict s caller number v ops object w other h live is a = absurd a

is_free : (s : State) (caller number v : ℕ) (ops : List Op) (b : Answer) → IsFine s → IsLive s number caller v → HasNoConflict s v ops → Answers s caller (Commit number ops) b
    → b ≡ Committed (head s + 1) (run (design s (head s)) ops).replies
is_free s caller number v ops (Conflict other u) h live free a =
    let theirs : IsConflict s v ops other u = subst (λ x. IsConflict s x ops other u) (one_version s number caller a.0 v h a.1 live) a.2 in absurd (free other u theirs.clashes)
is_free s caller number v ops (Committed last replies) h live free a = ap (λ n. Committed n replies) a.3 ∙ ap (λ (r : List Reply). Committed (head s + 1) r) a.4
is_free s caller number v ops other h live free a = absurd a

pub one_answer : (s : State) (caller : ℕ) (call : Call) (a b : Answer) → IsFine s → Answers s caller call a → Answers s caller call b → a ≡ b
one_answer s caller Pin (Pinned number v) b h x y = after_pin s caller (Pinned number v) x ∙ sym (after_pin s caller b y)
one_answer s caller (PinAt wanted) (NoVersion last) b h x y = past_head s caller wanted (NoVersion last) x.0 x ∙ sym (past_head s caller wanted b x.0 y)
one_answer s caller (PinAt wanted) (Gone least) b h x y = sym (is_gone s caller wanted least b x.0 x.1 x.2 y)
one_answer s caller (PinAt wanted) (Pinned number v) b h x y = is_kept s caller wanted (Pinned number v) x.0 x.1 x ∙ sym (is_kept s caller wanted b x.0 x.1 y)
one_answer s caller (Release number) Released b h x y = sym (after_release s caller number b y)
one_answer s caller Collect (Collected count) b h x y = after_collect s caller (Collected count) x ∙ sym (after_collect s caller b y)
one_answer s caller (Commit number ops) (Conflict object w) b h x y = sym (in_conflict s caller number x.0 ops object w b h x.1 x.2 y)
one_answer s caller (Commit number ops) (Committed last replies) b h x y = is_free s caller number x.0 ops (Committed last replies) h x.1 x.2 x ∙ sym (is_free s caller number x.0 ops b h x.1 x.2 y)
one_answer s caller call a b h x y = absurd x

pub one_history : (s : State) (xs ys : List Event) → IsFine s → IsLegalFrom s xs → IsLegalFrom s ys → map asked xs ≡ map asked ys → xs ≡ ys
one_history s [] [] h p q e = refl
one_history s [] (y ∷ ys) h p q e = absurd (cc (e))
one_history s (x ∷ xs) [] h p q e = absurd (cc (e))
one_history s (x ∷ xs) (y ∷ ys) h p q e =
    let heads : asked x ≡ asked y = cc (e) in
    let rest : map asked xs ≡ map asked ys = cc (e) in
    let caller : x.caller ≡ y.caller = ap (λ (a : ℕ × Call). a.0) heads in
    let call : x.call ≡ y.call = ap (λ (a : ℕ × Call). a.1) heads in
    let mine = p.0 in
    let theirs = q.0 in
    let given : Answers s x.caller x.call y.answer =
    subst (λ (n : ℕ). Answers s n x.call y.answer) (sym caller) (subst (λ (k : Call). Answers s y.caller k y.answer) (sym call) theirs.answers) in
    let answer : x.answer ≡ y.answer = one_answer s x.caller x.call x.answer y.answer h mine.answers given in
    let make : ℕ → Call → Answer → Event = λ n k a. record { caller = n; call = k; answer = a } in
    let same : x ≡ y = ap (λ n. make n x.call x.answer) caller ∙ (ap (λ k. make y.caller k x.answer) call ∙ ap (λ a. make y.caller y.call a) answer) in
    let legal : IsLegalFrom (after s x) ys = subst (λ (z : Event). IsLegalFrom (after s z) ys) (sym same) q.1 in
    let others : xs ≡ ys = one_history (after s x) xs ys (fine_after s x h mine) p.1 legal rest in
    ap (λ (z : Event). z ∷ xs) same ∙ ap (λ (zs : List Event). y ∷ zs) others
