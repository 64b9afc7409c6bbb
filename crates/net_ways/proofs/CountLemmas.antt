-- Searches by halving, and what they find.
use Rattle.std.proofs.Common.{◌≡◌, ◌⊎◌, ◌<◌, ◌≤◌, ℕ, List, length, get_or, Bool, true, false, ◌&&◌, refl, sym, ap, subst, ◌∙◌, inl, inr, arith, Some, None, Option, slice_get}
use Rattle.std.specs.Prelude.{nat_eq, nat_lt}
use Rattle.std.specs.List.{AllPairs, Contains}
use Rattle.std.specs.List.Sorted.{IsPartitionPoint, IsPartitionedBy}
use Rattle.std.proofs.lemmas.Bool.{and_from, and_parts, cases_eq, cases_lt, eq-eqb, eqb-true, false_from_ne_true, lt-ltb, ltb-true, or_cases, or_left, or_right, true≢false}
use Rattle.std.proofs.lemmas.Option.{get_or_from_slice_get, none-some, same_Some, slice_get-get_or, slice_get_within}
use Rattle.net_ways.specs.Counts.{IsCountOf}
use Rattle.net_ways.specs.Ways.{IsFrom, IsOuter, WayUpto, way_before}
use Rattle.net_ways.specs.declared.ways.Way.{Way}

-- an order of the elements parts them where the test goes back along it
pub parted : {A : Type 0} (R : A → A → Type 0) (p : A → Bool) (xs : List A) → AllPairs R xs → ((a b : A) → R a b → p b ≡ true → p a ≡ true) → IsPartitionedBy p xs
parted R p xs pairs back i j d le within e = elim (cases_eq i j) [
  | inl same ↦ subst (λ k. p (get_or xs k d) ≡ true) (sym same) e
  | inr apart ↦ back (get_or xs i d) (get_or xs j d) (pairs i j d (omega (arith, le, apart)) within) e
]

pub counted : {A : Type 0} (p : A → Bool) (xs : List A) (count : ℕ) → count ≤ length xs → IsPartitionPoint (λ y. p y ≡ true) (λ y. p y ≡ false) xs count → IsCountOf p xs count
counted p xs count bound point = record {
  bound = bound;
  front = λ k x less is. subst (λ v. p v ≡ true) (get_or_from_slice_get xs k x x is) (point.0 k x (omega arith) less);
  back = λ k x le is. subst (λ v. p v ≡ false) (get_or_from_slice_get xs k x x is) (point.1 k x le (slice_get_within xs k x is));
}

-- a member has a place
pub placed : {A : Type 0} (xs : List A) (x : A) → Contains xs x → (k : ℕ) × (slice_get xs k ≡ Some x)
placed xs x has = (has.0, slice_get-get_or xs has.0 x has.1 ∙ ap Some has.2)

-- in a list that is parted, what stands at the count is the first that does not come before
module _ {A : Type 0} (p : A → Bool) (xs : List A) (count : ℕ) (is : IsCountOf p xs count) where
  pub all_before : slice_get xs count ≡ None → (x : A) → Contains xs x → p x ≡ true
  all_before none x has =
      let at = placed xs x has in
      elim (cases_lt at.0 count) [
        | inl less ↦ is.front at.0 x less at.1
        | inr more ↦
            let within = slice_get_within xs at.0 x at.1 in
            absurd (out_of (slice_get xs count) none (slice_get-get_or xs count x (omega (arith, more, within))))
      ]
    where
      out_of : {B : Type 0} {y : B} (o : Option B) → o ≡ None → o ≡ Some y → ⊥
      out_of o e f = none-some _ (sym e ∙ f)

  -- an element behind it has a place behind it, or is it
  pub not_before : (next : A) → slice_get xs count ≡ Some next → (x : A) → Contains xs x → p x ≡ false → (R : A → A → Type 0) → AllPairs R xs → (next ≡ x) ⊎ R next x
  not_before next at x has not_so R pairs =
      let there = placed xs x has in
      elim (cases_lt there.0 count) [
        | inl less ↦ absurd (true≢false (sym (is.front there.0 x less there.1) ∙ not_so))
        | inr more ↦ elim (cases_eq count there.0) [
          | inl same ↦ inl (same_Some next x (sym at ∙ ap (slice_get xs) same ∙ there.1))
          | inr apart ↦
              let within = slice_get_within xs there.0 x there.1 in
              let pair = pairs count there.0 x (omega (arith, more, apart)) within in
              inr (subst (λ v. R v x) (get_or_from_slice_get xs count next x at) (subst (R (get_or xs count x)) (get_or_from_slice_get xs there.0 x x there.1) pair))
        ]
      ]

-- ways
pub way_back : (inst first : ℕ) (v w : Way) → WayUpto v w → way_before inst first w ≡ true → way_before inst first v ≡ true
way_back inst first v w order e = go order (or_cases (nat_lt w.inst inst) (nat_eq w.inst inst && nat_lt w.first first) e)
  where
    less : v.inst < inst → way_before inst first v ≡ true
    less l = or_left (nat_lt v.inst inst) (nat_eq v.inst inst && nat_lt v.first first) (lt-ltb v.inst inst l)

    go : WayUpto v w → (nat_lt w.inst inst ≡ true) ⊎ ((nat_eq w.inst inst && nat_lt w.first first) ≡ true) → way_before inst first v ≡ true
    go (inl before) (inl l) = let m = ltb-true w.inst inst l in less (omega (arith, before, m))
    go (inl before) (inr h) = let parts = and_parts (nat_eq w.inst inst) (nat_lt w.first first) h in let s = eqb-true w.inst inst parts.0 in less (omega (arith, before, s))
    go (inr k) (inl l) = let m = ltb-true w.inst inst l in less (omega (arith, k.0, m))
    go (inr k) (inr h) =
        let parts = and_parts (nat_eq w.inst inst) (nat_lt w.first first) h in
        let s = eqb-true w.inst inst parts.0 in
        let f = ltb-true w.first first parts.1 in
        or_right (nat_lt v.inst inst) (nat_eq v.inst inst && nat_lt v.first first)
        (and_from (nat_eq v.inst inst) (nat_lt v.first first) (eq-eqb v.inst inst (k.0 ∙ s)) (lt-ltb v.first first (omega (arith, k.1, f))))

-- of the ways in order none is that of an instance and first net where the first that does not come before is another
pub no_way : (ways : List Way) (inst first count : ℕ) → AllPairs WayUpto ways → IsCountOf (way_before inst first) ways count
    → ((w : Way) → slice_get ways count ≡ Some w → IsFrom inst first w → ⊥) → IsOuter ways inst first None
no_way ways inst first count order is other net has = go (slice_get ways count) refl
  where
    not_past : way_before inst first (record { inst = inst; first = first; net = net }) ≡ false
    not_past = false_from_ne_true (way_before inst first (record { inst = inst; first = first; net = net })) (λ e. elim (or_cases (nat_lt inst inst) (nat_eq inst inst && nat_lt first first) e) [
      | inl l ↦ let m = ltb-true inst inst l in omega (arith, m)
      | inr h ↦ let m = ltb-true first first (and_parts (nat_eq inst inst) (nat_lt first first) h).1 in omega (arith, m)
    ])

    go : (o : Option Way) → slice_get ways count ≡ o → ⊥
    go None at = true≢false (sym (all_before (way_before inst first) ways count is at (record { inst = inst; first = first; net = net }) has) ∙ not_past)
    go (Some w) at = elim (not_before (way_before inst first) ways count is w at (record { inst = inst; first = first; net = net }) has not_past WayUpto order) [
      | inl same ↦ other w at (record { inst_is = ap (λ (v : Way). v.inst) same; first_is = ap (λ (v : Way). v.first) same })
      | inr upto ↦ other w at (tied upto (is.back count w (omega arith) at))
    ]
      where
        tied : WayUpto w (record { inst = inst; first = first; net = net }) → way_before inst first w ≡ false → IsFrom inst first w
        tied (inl before) not_so = absurd (true≢false (sym (or_left (nat_lt w.inst inst) (nat_eq w.inst inst && nat_lt w.first first) (lt-ltb w.inst inst before)) ∙ not_so))
        tied (inr k) not_so = elim (cases_lt w.first first) [
          | inl less ↦ absurd (true≢false (sym (or_right (nat_lt w.inst inst) (nat_eq w.inst inst && nat_lt w.first first)
              (and_from (nat_eq w.inst inst) (nat_lt w.first first) (eq-eqb w.inst inst k.0) (lt-ltb w.first first less))) ∙ not_so))
          | inr more ↦ let le = k.1 in record { inst_is = k.0; first_is = omega (arith, le, more) }
        ]
