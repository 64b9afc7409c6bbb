-- Images of paths, step by step.
use Rattle.std.proofs.Common.{◌≡◌, ◌⊎◌, ℕ, List, [], ◌∷◌, ◌++◌, refl, sym, ap, subst, ◌∙◌, inl, inr, Option, Some, None, slice_get}
use Rattle.std.specs.Prelude.{cond, option_and_then, option_map}
use Rattle.netlist_schema.specs.Design.{Design}
use Rattle.netlist_schema.specs.Hierarchy.{insts_at}
use Rattle.netlist_schema.specs.Types.{CellId, Inst}
use Rattle.ungroup_spec.specs.Maps.{Dissolving, step_after, child_after, path_after, path_inside}
use Rattle.ungroup_spec.specs.Ungroup.{IsSite}
use Rattle.ungroup_spec.proofs.AtLemmas.{insts-here}
use Rattle.ungroup_spec.proofs.CarriedLemmas.{dissolved-cases}
use Rattle.ungroup_spec.proofs.Cut.{IsChild}

pub and_map-parts : {A B C : Type 0} (f : A → Option B) (g : B → C) (o : Option A) (y : C) → option_map g (option_and_then f o) ≡ Some y
    → (x : A) × (o ≡ Some x) × (z : B) × (f x ≡ Some z) × (y ≡ g z)
and_map-parts f g None y e = absurd (cc e)
and_map-parts {A} {B} {C} f g (Some x) y e = go (f x) refl e
  where
    go : (r : Option B) → f x ≡ r → option_map g r ≡ Some y
        → (v : A) × (◌≡◌ {A = Option A} (Some x) (Some v)) × (z : B) × (f v ≡ Some z) × (y ≡ g z)
    go None is e = absurd (cc e)
    go (Some z) is e = let same : g z ≡ y = cc e in (x, refl, z, is, sym same)

pub and_map-from : {A B C : Type 0} (f : A → Option B) (g : B → C) (o : Option A) (x : A) (z : B) → o ≡ Some x → f x ≡ Some z
    → option_map g (option_and_then f o) ≡ Some (g z)
and_map-from f g o x z is at = ap (λ v. option_map g (option_and_then f v)) is ∙ ap (option_map g) at

-- the image of a path with a first step: into the dissolved instance, or elsewhere
pub record GoesOn (d : Design) (q : Dissolving) (c : CellId) (i : ℕ) (path moved : List ℕ) : Type 0 where
  pub other : (c ≡ q.cell) → (i ≡ q.site.place) → ⊥
  pub inst : Inst
  pub is : slice_get (insts_at d c) i ≡ Some inst
  pub rest : List ℕ
  pub on : path_after d q inst.of path ≡ Some rest
  pub whole : moved ≡ step_after q c i ∷ rest

pub record GoesIn (d : Design) (q : Dissolving) (c : CellId) (i : ℕ) (path moved : List ℕ) : Type 0 where
  pub cell : c ≡ q.cell
  pub place : i ≡ q.site.place
  pub on : path_inside d q path ≡ Some moved

pub path-cases : (d : Design) (q : Dissolving) (c : CellId) (i : ℕ) (path moved : List ℕ) → path_after d q c (i ∷ path) ≡ Some moved
    → GoesIn d q c i path moved ⊎ GoesOn d q c i path moved
path-cases d q c i path moved e =
    let here : List ℕ → List ℕ = λ rest. step_after q c i ∷ rest in
    let outside = option_map here (option_and_then (λ (inst : Inst). path_after d q inst.of path) (slice_get (insts_at d c) i)) in
    elim (dissolved-cases q c i) [
      | inl in_it ↦ inl (record {
        cell = in_it.1;
        place = in_it.2;
        on = subst (λ b. cond b (path_inside d q path) outside ≡ Some moved) in_it.0 e;
      })
      | inr apart ↦
          let there : outside ≡ Some moved = subst (λ b. cond b (path_inside d q path) outside ≡ Some moved) apart.0 e in
          let parts = and_map-parts (λ (inst : Inst). path_after d q inst.of path) here (slice_get (insts_at d c) i) moved there in
          inr (record { other = apart.1; inst = parts.0; is = parts.1; rest = parts.2; on = parts.3; whole = parts.4 })
    ]

pub path-in : (d : Design) (q : Dissolving) (c : CellId) (i : ℕ) (path moved : List ℕ) → c ≡ q.cell → i ≡ q.site.place
    → path_inside d q path ≡ Some moved → path_after d q c (i ∷ path) ≡ Some moved
path-in d q c i path moved cell place e =
    elim (dissolved-cases q c i) [
      | inl in_it ↦
          ap (λ b. cond b (path_inside d q path) (option_map (λ rest. step_after q c i ∷ rest) (option_and_then (λ (inst : Inst). path_after d q inst.of path) (slice_get (insts_at d c) i)))) in_it.0 ∙ e
      | inr apart ↦ absurd (apart.1 cell place)
    ]

pub path-on : (d : Design) (q : Dissolving) (c : CellId) (i : ℕ) (path : List ℕ) (inst : Inst) (rest : List ℕ)
    → ((c ≡ q.cell) → (i ≡ q.site.place) → ⊥) → slice_get (insts_at d c) i ≡ Some inst → path_after d q inst.of path ≡ Some rest
    → path_after d q c (i ∷ path) ≡ Some (step_after q c i ∷ rest)
path-on d q c i path inst rest other is on =
    elim (dissolved-cases q c i) [
      | inl in_it ↦ absurd (other in_it.1 in_it.2)
      | inr apart ↦
          ap (λ b. cond b (path_inside d q path) (option_map (λ r. step_after q c i ∷ r) (option_and_then (λ (v : Inst). path_after d q v.of path) (slice_get (insts_at d c) i)))) apart.0
          ∙ and_map-from (λ (v : Inst). path_after d q v.of path) (λ r. step_after q c i ∷ r) (slice_get (insts_at d c) i) inst rest is on
    ]

-- the image of a path inside with a first step
pub record ChildOn (d : Design) (q : Dissolving) (j : ℕ) (path moved : List ℕ) : Type 0 where
  pub inst : Inst
  pub is : slice_get q.site.within.insts j ≡ Some inst
  pub rest : List ℕ
  pub on : path_after d q inst.of path ≡ Some rest
  pub whole : moved ≡ child_after q j ∷ rest

pub inside-parts : (d : Design) (q : Dissolving) (j : ℕ) (path moved : List ℕ) → path_inside d q (j ∷ path) ≡ Some moved → ChildOn d q j path moved
inside-parts d q j path moved e =
    let parts = and_map-parts (λ (inst : Inst). path_after d q inst.of path) (λ (rest : List ℕ). child_after q j ∷ rest) (slice_get q.site.within.insts j) moved e in
    record { inst = parts.0; is = parts.1; rest = parts.2; on = parts.3; whole = parts.4 }

-- a path with a step has an image with a step
inside-step : (d : Design) (q : Dissolving) (path : List ℕ) → path_inside d q path ≡ Some [] → ⊥
inside-step d q [] e = cc e
inside-step d q (j ∷ path) e = cc (inside-parts d q j path [] e).whole

pub path-first : (d : Design) (q : Dissolving) (c : CellId) (i : ℕ) (path : List ℕ) → path_after d q c (i ∷ path) ≡ Some [] → ⊥
path-first d q c i path e = elim (path-cases d q c i path [] e) [ inl in_it ↦ inside-step d q path in_it.on | inr apart ↦ cc apart.whole ]

pub path-step : (d : Design) (q : Dissolving) (c : CellId) (path : List ℕ) (s : ℕ) → path_after d q c (path ++ s ∷ []) ≡ Some [] → ⊥
path-step d q c [] s e = path-first d q c s [] e
path-step d q c (i ∷ path) s e = path-first d q c i (path ++ s ∷ []) e

pub kid-of : (d : Design) (c : CellId) (i : ℕ) (inst : Inst) → slice_get (insts_at d c) i ≡ Some inst → IsChild d c i inst.of
kid-of d c i inst is = (inst, is, refl)

pub within-kid : (d : Design) (q : Dissolving) → IsSite d q.cell q.site → (j : ℕ) (inst : Inst) → slice_get q.site.within.insts j ≡ Some inst
    → IsChild d q.site.inst.of j inst.of
within-kid d q stands j inst is =
    (inst, subst (λ v. slice_get v j ≡ Some inst) (sym (insts-here d q.site.inst.of q.site.within stands.within)) is, refl)

pub kid-within : (d : Design) (q : Dissolving) → IsSite d q.cell q.site → (j : ℕ) (k : CellId) → IsChild d q.site.inst.of j k
    → (inst : Inst) × (slice_get q.site.within.insts j ≡ Some inst) × (k ≡ inst.of)
kid-within d q stands j k kid =
    (kid.0, subst (λ v. slice_get v j ≡ Some kid.0) (insts-here d q.site.inst.of q.site.within stands.within) kid.1, kid.2)
