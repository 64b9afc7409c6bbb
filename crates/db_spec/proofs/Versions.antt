-- Each version is what the operations of its commit make of the one before.
use Rattle.std.proofs.Common.{◌≡◌, ℕ, zero, suc, ◌+◌, ◌-◌, ◌<◌, ◌≤◌, List, [], ◌∷◌, inl, inr, refl, ap, sym, ◌∙◌, subst, arith, length-append}
use Rattle.std.proofs.lemmas.Bool.{cases_lt}
use Rattle.std.proofs.lemmas.List.{get_or_at}
use Rattle.netlist_schema.specs.Design.{Design}
use Rattle.netlist_schema.specs.Types.{Object}
use Rattle.edit_spec.specs.Frame.{IsReplayed}
use Rattle.edit_spec.specs.Needs.{Written}
use Rattle.edit_rules_spec.specs.Objects.{Grown, IsClosed, value_of}
use Rattle.edit_spec.specs.Step.{step, run}
use Rattle.edit_spec.specs.declared.ops.Op.{Op}
use Rattle.edit_spec.proofs.Framed.{step_closed}
use Rattle.edit_spec.proofs.Overlaid.{run_stays}
use Rattle.edit_spec.proofs.Replayed.{replay}
use Rattle.edit_rules_spec.proofs.Growing.{Grown-refl, Grown-trans}
use Rattle.edit_rules_spec.proofs.Values.{agree_is_same_value}
use Rattle.edit_spec.proofs.Values.{run_is_grown}
use Rattle.db_spec.specs.declared.event.Call.{Call}
use Rattle.db_spec.specs.declared.event.Call.TheVariants.{Release, Collect, Commit}
use Rattle.db_spec.specs.declared.event.Answer.{Answer}
use Rattle.db_spec.specs.declared.event.Answer.TheVariants.{Pinned, Released, Collected, Committed}
use Rattle.db_spec.specs.declared.event.Event.{Event}
use Rattle.db_spec.specs.State.{State, Version, opening, head, version, design, first_version, next_version, changed, committed, after, IsWritten}
use Rattle.db_spec.specs.Answers.{HasNoConflict}
use Rattle.db_spec.specs.History.{state_from, state_after}
use Rattle.db_spec.proofs.Histories.{GoesOn, same_version}

-- ---- operations on one design

pub closed_run : (d : Design) (ops : List Op) → IsClosed d → IsClosed (run d ops).design
closed_run d [] closed = closed
closed_run d (op ∷ ops) closed = closed_run (step d op).design ops (step_closed d op closed)

-- an object that operations do not write keeps its value
pub same_unwritten : (d : Design) (ops : List Op) (object : Object) → ¬ Written d ops object → value_of (run d ops).design object ≡ value_of d object
same_unwritten d ops object free = sym ((agree_is_same_value d (run d ops).design object).0 (run_stays ops d object free))

-- ---- the versions after a commit

module _ (s : State) (ops : List Op) where
  pub goes_on_committed : GoesOn s (committed s ops)
  goes_on_committed = record { first = refl; more = next_version s ops ∷ []; commits = refl }

  pub version_old : (v : ℕ) → v ≤ head s → version (committed s ops) v ≡ version s v
  version_old v le = same_version s (committed s ops) v goes_on_committed le

  pub version_new : version (committed s ops) (head s + 1) ≡ next_version s ops
  version_new = get_or_at (first_version s ∷ s.commits) (next_version s ops) [] (first_version s) (head s + 1) (omega arith)

  pub head_new : head (committed s ops) ≡ head s + 1
  head_new = length-append s.commits (next_version s ops ∷ [])

-- ---- each version comes from the one before

abbrev pub Follows : State → ℕ → Type 0
Follows s v = design s (v + 1) ≡ (run (design s v) (version s (v + 1)).made_by).design

abbrev pub AllFollow : State → Type 0
AllFollow s = (v : ℕ) → v < head s → Follows s v

-- over two versions in place of a state
abbrev Comes : Version → Version → Type 0
Comes before next = next.design ≡ (run before.design next.made_by).design

follows_committed : (s : State) (ops : List Op) → AllFollow s → AllFollow (committed s ops)
follows_committed s ops h v lt = elim (cases_lt v (head s)) [
  | inl old ↦
      subst (λ (x : Version). Comes x (version (committed s ops) (v + 1))) (sym (version_old s ops v (omega arith)))
      (subst (λ (x : Version). Comes (version s v) x) (sym (version_old s ops (v + 1) (omega arith))) (h v old))
  | inr last ↦
      let at : v ≡ head s = omega (arith, head_new s ops) in
      subst (λ (w : ℕ). Follows (committed s ops) w) (sym at)
      (subst (λ (x : Version). Comes x (version (committed s ops) (head s + 1))) (sym (version_old s ops (head s) (omega arith)))
      (subst (λ (x : Version). Comes (version s (head s)) x) (sym (version_new s ops)) refl))
]

follows_changed : (s : State) (caller : ℕ) (call : Call) (answer : Answer) → AllFollow s → AllFollow (changed s caller call answer)
follows_changed s caller call (Pinned number v) h = h
follows_changed s caller (Release number) Released h = h
follows_changed s caller Collect (Collected count) h = h
follows_changed s caller (Commit number ops) (Committed v replies) h = follows_committed s ops h
follows_changed s caller call answer h = h

pub follows_from : (s : State) (xs : List Event) → AllFollow s → AllFollow (state_from s xs)
follows_from s [] h = h
follows_from s (x ∷ xs) h = follows_from (after s x) xs (follows_changed s x.caller x.call x.answer h)

pub follows_after : (d : Design) (xs : List Event) → AllFollow (state_after d xs)
follows_after d xs = follows_from (opening d) xs (λ v lt. absurd (omega (arith, lt)))

-- what each run of operations keeps holds of each version
pub of_each_version : (P : Design → Type 0) → ((d : Design) (ops : List Op) → P d → P (run d ops).design) → (s : State) → AllFollow s → P s.first → (v : ℕ) → v ≤ head s → P (design s v)
of_each_version P kept s follows first zero le = first
of_each_version P kept s follows first (suc v) le =
    let next : v + 1 ≡ suc v = omega arith in
    subst (λ (w : ℕ). P (design s w)) next
    (subst P (sym (follows v (omega arith))) (kept (design s v) (version s (v + 1)).made_by (of_each_version P kept s follows first v (omega arith))))

pub closed_versions : (s : State) → AllFollow s → IsClosed s.first → (v : ℕ) → v ≤ head s → IsClosed (design s v)
closed_versions = of_each_version IsClosed closed_run

-- later versions are grown
pub grown_on : (s : State) → AllFollow s → (v k w : ℕ) → w ≡ v + k → w ≤ head s → Grown (design s v) (design s w)
grown_on s follows v zero w is le = let at : v ≡ w = omega arith in subst (λ (u : ℕ). Grown (design s v) (design s u)) at (Grown-refl (design s v))
grown_on s follows v (suc k) w is le =
    let at : v + k + 1 ≡ w = omega arith in
    subst (λ (u : ℕ). Grown (design s v) (design s u)) at
    (Grown-trans (design s v) (design s (v + k)) (design s (v + k + 1)) (grown_on s follows v k (v + k) refl (omega arith))
    (subst (λ (d : Design). Grown (design s (v + k)) d) (sym (follows (v + k) (omega arith))) (run_is_grown (design s (v + k)) (version s (v + k + 1)).made_by)))

-- what no commit between wrote has the same value
pub same_value : (s : State) → AllFollow s → IsClosed s.first → (object : Object) (v k w : ℕ) → w ≡ v + k → w ≤ head s
    → ((u : ℕ) → v < u → u ≤ head s → ¬ IsWritten s u object) → value_of (design s w) object ≡ value_of (design s v) object
same_value s follows closed object v zero w is le free = let at : w ≡ v = omega arith in ap (λ (u : ℕ). value_of (design s u) object) at
same_value s follows closed object v (suc k) w is le free =
    let at : w ≡ v + k + 1 = omega arith in
    let before : v + k + 1 - 1 ≡ v + k = omega arith in
    let ops = (version s (v + k + 1)).made_by in
    let unwritten : ¬ Written (design s (v + k)) ops object =
    subst (λ (u : ℕ). ¬ Written (design s u) ops object) before (free (v + k + 1) (omega arith) (omega arith)) in
    ap (λ (u : ℕ). value_of (design s u) object) at
    ∙ (ap (λ (d : Design). value_of d object) (follows (v + k) (omega arith))
    ∙ (same_unwritten (design s (v + k)) ops object unwritten
    ∙ same_value s follows closed object v k (v + k) refl (omega arith) free))

-- where no later commit wrote what the operations read, they do the same on the last version
pub replayed : (s : State) → AllFollow s → IsClosed s.first → (v : ℕ) (ops : List Op) → v ≤ head s → HasNoConflict s v ops → IsReplayed (design s v) (design s (head s)) ops
replayed s follows closed v ops le free =
    let k : ℕ = head s - v in
    let is : head s ≡ v + k = omega arith in
    replay (design s v) (design s (head s)) ops (closed_versions s follows closed v le) (grown_on s follows v k (head s) is (omega arith))
    (λ object read. (agree_is_same_value (design s v) (design s (head s)) object).1
    (sym (same_value s follows closed object v k (head s) is (omega arith) (λ u lt there wrote. free object u (record { read = read; later = lt; there = there; written = wrote })))))
