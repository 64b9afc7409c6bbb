-- No call of a caller is without an answer.
use Rattle.std.proofs.Common.{◌≡◌, ℕ, zero, suc, ◌+◌, ◌<◌, ◌≤◌, List, [], ◌∷◌, Contains, inl, inr, ⊎_elim, refl, sym, subst, arith}
use Rattle.std.specs.declared.cmp.Ordering.TheVariants.{Less}
use Rattle.std.proofs.lemmas.Bool.{cases_lt}
use Rattle.netlist_schema.specs.Design.{Design}
use Rattle.netlist_schema.specs.Order.{object_cmp}
use Rattle.netlist_schema.specs.Types.{Object}
use Rattle.edit_spec.specs.Step.{run}
use Rattle.edit_spec.specs.declared.ops.Op.{Op}
use Rattle.db_spec.specs.declared.event.Answer.{Answer}
use Rattle.db_spec.specs.declared.event.Answer.TheVariants.{Pinned, NoVersion, Gone, Released, Collected, Committed, Conflict}
use Rattle.db_spec.specs.declared.event.Call.{Call}
use Rattle.db_spec.specs.declared.event.Call.TheVariants.{Pin, PinAt, Release, Collect, Commit}
use Rattle.db_spec.specs.declared.event.Event.{Event}
use Rattle.db_spec.specs.Answers.{Answers, Clashes, IsCallers, IsKept, IsLeastKept, dropped}
use Rattle.db_spec.specs.History.{Legal, state_after}
use Rattle.db_spec.specs.State.{State, head, design, IsLive}
use Rattle.netlist_schema.proofs.Objects.{each_object, at_most_or_less}
use Rattle.db_spec.proofs.Lists.{Rises, in_cases, in_head}
use Rattle.db_spec.proofs.Sound.{IsFine, kept_up_after}

-- ---- a commit

abbrev HasNoAnswer : State → ℕ → Call → Type 0
HasNoAnswer s caller call = (answer : Answer) → ¬ Answers s caller call answer

-- where no answer is a conflict, nothing clashes: else the least object that does would be in conflict
module _ (s : State) (caller number v : ℕ) (ops : List Op) (live : IsLive s number caller v) (none : HasNoAnswer s caller (Commit number ops)) where
  -- the object clashes with no commit, the last one first
  with_none : (object : Object) → ((other : Object) → object_cmp other object ≡ Less → (u : ℕ) → ¬ Clashes s v ops other u) → (k w : ℕ) → head s ≤ w + k → ¬ Clashes s v ops object w
  with_none object lesser zero w high c = none (Conflict object w) (
    v,
    live,
    record {
      clashes = c;
      least = λ other u d. ⊎_elim (λ le. le) (λ less. absurd (lesser other less u d)) (at_most_or_less object other);
      greatest = λ u d. let there = d.there in omega arith;
    },
  )
  with_none object lesser (suc k) w high c = none (Conflict object w) (
    v,
    live,
    record {
      clashes = c;
      least = λ other u d. ⊎_elim (λ le. le) (λ less. absurd (lesser other less u d)) (at_most_or_less object other);
      greatest = λ u d. ⊎_elim
          (λ (lt : w < u). absurd (with_none object lesser k u (omega arith) d))
          (λ (ge : u ≤ w). ge)
          (cases_lt w u);
    },
  )

  no_clash : (object : Object) (w : ℕ) → ¬ Clashes s v ops object w
  no_clash = each_object (λ object. (w : ℕ) → ¬ Clashes s v ops object w) (λ object lesser w. with_none object lesser (head s) w (omega arith))

  pub commit_is_answered : ⊥
  commit_is_answered = none (Committed (head s + 1) (run (design s (head s)) ops).replies) (v, live, no_clash, refl, refl)

-- ---- the other calls

least_of : (s : State) (kept : List ℕ) → s.kept ≡ kept → Rises (λ (v : ℕ). v) kept → IsKept s (head s) → (v : ℕ) × IsLeastKept s v
least_of s [] is rises head_kept = let m = subst (λ (vs : List ℕ). Contains vs (head s)) is head_kept in absurd (omega (arith, m.1))
least_of s (v ∷ vs) is rises head_kept = (
  v,
  record {
    kept = subst (λ (ws : List ℕ). Contains ws v) (sym is) (in_head v vs);
    least = λ u m. elim (in_cases v u vs (subst (λ (ws : List ℕ). Contains ws u) is m)) [
      | inl e ↦ omega arith
      | inr r ↦ let lt = rises.0 u r in omega arith
    ];
  },
)

pin_at_is_answered : (s : State) (caller wanted : ℕ) → IsFine s → ¬ HasNoAnswer s caller (PinAt wanted)
pin_at_is_answered s caller wanted fine none = ⊎_elim
    (λ (past : head s < wanted). none (NoVersion (head s)) (past, refl))
    (λ (le : wanted ≤ head s).
    let gone : ¬ IsKept s wanted = λ kept. none (Pinned s.made wanted) (le, kept, refl, refl) in
    let least = least_of s s.kept refl fine.ascending fine.head_kept in none (Gone least.0) (le, gone, least.1))
    (cases_lt (head s) wanted)

answered : (s : State) (caller : ℕ) (call : Call) → IsFine s → IsCallers s caller call → ¬ HasNoAnswer s caller call
answered s caller Pin fine mine none = none (Pinned s.made (head s)) (refl, refl)
answered s caller (PinAt wanted) fine mine none = pin_at_is_answered s caller wanted fine none
answered s caller (Release number) fine mine none = none Released tt
answered s caller Collect fine mine none = none (Collected (dropped s)) refl
answered s caller (Commit number ops) fine mine none = commit_is_answered s caller number mine.0 ops mine.1 none

pub each_call_is_answered : (d : Design) (xs : List Event) (caller : ℕ) (call : Call) → Legal d xs → IsCallers (state_after d xs) caller call
    → ¬ ((answer : Answer) → ¬ Answers (state_after d xs) caller call answer)
each_call_is_answered d xs caller call legal mine = answered (state_after d xs) caller call ((kept_up_after d xs legal).fine) mine
