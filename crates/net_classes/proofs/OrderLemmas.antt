-- Sorted joints are in order.
use Rattle.std.proofs.Common.{◌≡◌, ◌<◌, ◌+◌, ◌-◌, ◌⊎◌, ℕ, zero, suc, List, length, get_or, refl, sym, ap, subst, ◌∙◌, inl, inr, arith, true, false}
use Rattle.std.specs.List.{AllPairs}
use Rattle.std.specs.List.Sorted.{IsSorted}
use Rattle.std.specs.Ordering.{is_lt, nat_cmp, ordering_then}
use Rattle.std.specs.declared.cmp.Ordering.{Ordering}
use Rattle.std.specs.declared.cmp.Ordering.TheVariants.{Less, Equal}
use Rattle.std.proofs.lemmas.Bool.{cases_order, false≢true}
use Rattle.std.proofs.lemmas.Bool.Decides.{nat_tests}
use Rattle.net_classes.specs.Joints.{IsNotBehind, joint_cmp}
use Rattle.net_classes.specs.declared.joints.Joint.{Joint}

-- one number against another, in an order by several
less : (x y : ℕ) (rest : Ordering) → x < y → is_lt (ordering_then (nat_cmp x y) rest) ≡ true
less x y rest l = let e : nat_cmp x y ≡ Less = grind (arith, nat_tests) in ap (λ o. is_lt (ordering_then o rest)) e

same : (x y : ℕ) (rest : Ordering) → x ≡ y → is_lt (ordering_then (nat_cmp x y) rest) ≡ is_lt rest
same x y rest e = let t : nat_cmp x y ≡ Equal = grind (arith, nat_tests) in ap (λ o. is_lt (ordering_then o rest)) t

-- where the second number is not before the first, it is the same or behind it
not_less : (x y : ℕ) (rest : Ordering) → is_lt (ordering_then (nat_cmp y x) rest) ≡ false → (x < y) ⊎ ((x ≡ y) × (is_lt rest ≡ false))
not_less x y rest h = elim (cases_order x y) [
  | inl equal ↦ inr (equal, sym (same y x rest (sym equal)) ∙ h)
  | inr apart ↦ elim apart [
    | inl before ↦ inl before
    | inr behind ↦ absurd (false≢true (sym h ∙ less y x rest behind))
  ]
]

not_behind : (a b : Joint) → is_lt (joint_cmp b a) ≡ false → IsNotBehind a b
not_behind a b h = elim (not_less a.inst b.inst _ h) [
  | inl before ↦ inl before
  | inr inst ↦ inr (
    inst.0,
    elim (not_less a.port b.port _ inst.1) [
      | inl before ↦ inl before
      | inr port ↦ inr (port.0, elim (not_less a.bit b.bit _ port.1) [ inl before ↦ omega (arith, before) | inr bit ↦ omega (arith, bit.0) ])
    ],
  )
]

pub not_behind-more : (a b c : Joint) → IsNotBehind a b → IsNotBehind b c → IsNotBehind a c
not_behind-more a b c h k = elim h [
  | inl before ↦ elim k [ inl more ↦ inl (omega (arith, before, more)) | inr inst ↦ inl (omega (arith, before, inst.0)) ]
  | inr inst ↦ elim k [
    | inl more ↦ inl (omega (arith, inst.0, more))
    | inr other ↦ inr (
      inst.0 ∙ other.0,
      elim inst.1 [
        | inl before ↦ elim other.1 [ inl more ↦ inl (omega (arith, before, more)) | inr port ↦ inl (omega (arith, before, port.0)) ]
        | inr port ↦ elim other.1 [ inl more ↦ inl (omega (arith, port.0, more)) | inr third ↦ inr (port.0 ∙ third.0, omega (arith, port.1, third.1)) ]
      ],
    )
  ]
]

-- an element and one so many places behind it
far : (joints : List Joint) (d : Joint) → IsSorted joint_cmp joints → (i n : ℕ) → i + suc n < length joints → IsNotBehind (get_or joints i d) (get_or joints (i + suc n) d)
far joints d sorted i zero within = next
  where
    step : i + 1 ≡ i + suc zero
    step = refl

    next : IsNotBehind (get_or joints i d) (get_or joints (i + suc zero) d)
    next = not_behind (get_or joints i d) (get_or joints (i + suc zero) d) (sorted i d (omega arith) (omega (arith, within)))
far joints d sorted i (suc n) within =
    let early = far joints d sorted i n (omega (arith, within)) in
    let at : i + suc (suc n) ≡ (i + suc n) + 1 = omega arith in
    let last = not_behind (get_or joints (i + suc n) d) (get_or joints ((i + suc n) + 1) d) (sorted (i + suc n) d (omega arith) (omega (arith, within))) in
    subst (λ k. IsNotBehind (get_or joints i d) (get_or joints k d)) (sym at) (not_behind-more (get_or joints i d) (get_or joints (i + suc n) d) (get_or joints ((i + suc n) + 1) d) early last)

pub sorted_in_order : (joints : List Joint) → IsSorted joint_cmp joints → AllPairs IsNotBehind joints
sorted_in_order joints sorted i j d less within =
    let n : ℕ = j - i - 1 in
    let at : i + suc n ≡ j = omega (arith, less) in
    subst (λ k. IsNotBehind (get_or joints i d) (get_or joints k d)) at (far joints d sorted i n (omega (arith, less, within)))
