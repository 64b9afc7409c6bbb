-- Which operations made a version, and that what a commit wrote is there from then on.
use Rattle.std.proofs.Common.{◌≡◌, ℕ, zero, suc, ◌+◌, ◌-◌, ◌<◌, ◌≤◌, List, ◌∷◌, ◌++◌, ap, sym, ◌∙◌, subst, arith}
use Rattle.netlist_schema.specs.Design.{Design}
use Rattle.netlist_schema.specs.Types.{Object}
use Rattle.edit_rules_spec.specs.Objects.{IsThere}
use Rattle.edit_rules_spec.specs.declared.reply.Reply.{Reply}
use Rattle.edit_spec.specs.Needs.{Written}
use Rattle.edit_spec.specs.Step.{run}
use Rattle.edit_spec.specs.declared.ops.Op.{Op}
use Rattle.db_spec.specs.declared.event.Answer.TheVariants.{Conflict}
use Rattle.db_spec.specs.declared.event.Call.TheVariants.{Commit}
use Rattle.db_spec.specs.declared.event.Event.{Event}
use Rattle.db_spec.specs.Answers.{Answers}
use Rattle.db_spec.specs.History.{Legal, state_from, state_after, version_at}
use Rattle.db_spec.specs.Laws.{accepted}
use Rattle.db_spec.specs.State.{State, opening, head, version, design, next_version, committed, after, IsWritten}
use Rattle.edit_rules_spec.proofs.There.{there_stays}
use Rattle.edit_spec.proofs.Overlaid.{run_there}
use Rattle.db_spec.proofs.Histories.{legal-right, state_from-append, same_version, goes_on_from}
use Rattle.db_spec.proofs.Versions.{AllFollow, follows_after, grown_on, version_new, head_new}

pub version_follows : (d : Design) (xs : List Event) (v : ℕ) → v < head (state_after d xs)
    → version_at d xs (v + 1) ≡ (run (version_at d xs v) (version (state_after d xs) (v + 1)).made_by).design
version_follows d xs v lt = follows_after d xs v lt

-- the version that an accepted commit makes, then and in each later state
pub commit_makes : (d : Design) (xs ys : List Event) (caller number : ℕ) (ops : List Op) (made : ℕ) (replies : List Reply) → Legal d (xs ++ accepted caller number ops made replies ∷ ys)
    → (made ≡ head (state_after d xs) + 1) × (version (state_after d (xs ++ accepted caller number ops made replies ∷ ys)) made ≡ next_version (state_after d xs) ops)
commit_makes d xs ys caller number ops made replies legal =
    let s : State = state_after d xs in
    let x : Event = accepted caller number ops made replies in
    let admits = (legal-right (opening d) xs (x ∷ ys) legal).0 in
    let last : made ≡ head s + 1 = admits.answers.3 in
    let there : made ≤ head (after s x) = omega (arith, last, head_new s ops) in (
      last,
      ap (λ (t : State). version t made) (state_from-append (opening d) xs (x ∷ ys))
          ∙ same_version (after s x) (state_from (after s x) ys) made (goes_on_from (after s x) ys) there
          ∙ ap (λ (v : ℕ). version (committed s ops) v) last
          ∙ version_new s ops,
    )

-- ---- what was written is there

written_from : (s : State) → AllFollow s → (v w : ℕ) (object : Object) → w ≤ v → v ≤ head s → IsWritten s w object → IsThere (design s v) object
written_from s follows v zero object le within is = absurd is
written_from s follows v (suc w) object le within is =
    let ops : List Op = (version s (suc w)).made_by in
    let next : w + 1 ≡ suc w = omega arith in
    let before : suc w - 1 ≡ w = omega arith in
    let here : Written (design s w) ops object = subst (λ (u : ℕ). Written (design s u) ops object) before is in
    let made : design s (suc w) ≡ (run (design s w) ops).design = subst (λ (u : ℕ). design s u ≡ (run (design s w) (version s u).made_by).design) next (follows w (omega arith)) in
    let there : IsThere (design s (suc w)) object = subst (λ (d : Design). IsThere d object) (sym made) (run_there ops (design s w) object here) in
    there_stays (design s (suc w)) (design s v) object (grown_on s follows (suc w) (v - suc w) v (omega arith) within) there

pub written_is_there : (d : Design) (xs : List Event) (v w : ℕ) (object : Object) → w ≤ v → v ≤ head (state_after d xs) → IsWritten (state_after d xs) w object → IsThere (version_at d xs v) object
written_is_there d xs v w object le within is = written_from (state_after d xs) (follows_after d xs) v w object le within is

pub conflict_is_there : (d : Design) (xs : List Event) (caller number : ℕ) (ops : List Op) (object : Object) (w : ℕ) → Answers (state_after d xs) caller (Commit number ops) (Conflict object w)
    → IsThere (version_at d xs (head (state_after d xs))) object
conflict_is_there d xs caller number ops object w answers =
    let clashes = answers.2.clashes in
    written_is_there d xs (head (state_after d xs)) w object clashes.there (omega arith) clashes.written
