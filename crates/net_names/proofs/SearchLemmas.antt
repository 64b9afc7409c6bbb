-- Joints in order, by their bits.
use Rattle.std.proofs.Common.{◌≡◌, ◌<◌, ◌≤◌, ◌+◌, ◌-◌, ℕ, List, length, get_or, take, drop, refl, sym, ap, subst, ◌∙◌, inl, inr, arith}
use Rattle.std.specs.Prelude.{Bool, true, false, not}
use Rattle.std.specs.List.{AllPairs, Contains}
use Rattle.std.proofs.lemmas.Bool.{cases_eq, cases_lt, cases_order}
use Rattle.std.proofs.lemmas.List.{get_or_default, get_or-drop, get_or-take, length-drop, length-take-le}
use Rattle.flat_spec.specs.Paths.{Bit}
use Rattle.net_classes.specs.Joints.{IsNotBehind}
use Rattle.net_classes.specs.declared.joints.Joint.{Joint}
use Rattle.net_names.specs.Search.{IsAt, IsBefore, IsCount, joint_at}

-- what comes before a joint in order comes before what that comes before
before_down : (inst : ℕ) (b : Bit) (i j : Joint) → IsNotBehind i j → IsBefore inst b j → IsBefore inst b i
before_down inst b i j h k = elim h [
  | inl less ↦ elim k [ inl more ↦ inl (omega (arith, less, more)) | inr here ↦ inl (omega (arith, less, here.0)) ]
  | inr same ↦ elim k [
    | inl more ↦ inl (omega (arith, same.0, more))
    | inr here ↦ inr (
      same.0 ∙ here.0,
      elim same.1 [
        | inl less ↦ elim here.1 [ inl more ↦ inl (omega (arith, less, more)) | inr port ↦ inl (omega (arith, less, port.0)) ]
        | inr port ↦ elim here.1 [ inl more ↦ inl (omega (arith, port.0, more)) | inr bit ↦ inr (port.0 ∙ bit.0, omega (arith, port.1, bit.1)) ]
      ],
    )
  ]
]

-- what is neither before the bit nor behind a joint of the bit is of the bit
between : (inst : ℕ) (b : Bit) (i j : Joint) → (IsBefore inst b i → ⊥) → IsNotBehind i j → IsAt inst b j → IsAt inst b i
between inst b i j not_before h at = elim h [
  | inl less ↦ absurd (not_before (inl (omega (arith, less, at.inst_is))))
  | inr same ↦ elim same.1 [
    | inl less ↦ absurd (not_before (inr (same.0 ∙ at.inst_is, inl (omega (arith, less, at.port_is)))))
    | inr port ↦ elim (cases_lt i.bit b.bit) [
      | inl less ↦ absurd (not_before (inr (same.0 ∙ at.inst_is, inr (port.0 ∙ at.port_is, less))))
      | inr more ↦ record { inst_is = same.0 ∙ at.inst_is; port_is = port.0 ∙ at.port_is; bit_is = omega (arith, more, port.1, at.bit_is) }
    ]
  ]
]

at_not_before : (inst : ℕ) (b : Bit) (j : Joint) → IsAt inst b j → IsBefore inst b j → ⊥
at_not_before inst b j at h = elim h [
  | inl less ↦ omega (arith, less, at.inst_is)
  | inr same ↦ elim same.1 [ inl less ↦ omega (arith, less, at.port_is) | inr port ↦ omega (arith, port.1, at.bit_is) ]
]

module _ (joints : List Joint) (order : AllPairs IsNotBehind joints) (inst : ℕ) (b : Bit) where
  in_order : (i k : ℕ) (d : Joint) → i < k → k < length joints → IsNotBehind (get_or joints i d) (get_or joints k d)
  in_order i k d less within = order i k d less within

  -- where the one in the middle comes before the bit, so do those before it
  pub step_up : (middle : ℕ) (d : Joint) → middle < length joints → IsBefore inst b (get_or joints middle d) → (k : ℕ) (e : Joint) → k < middle + 1 → IsBefore inst b (get_or joints k e)
  step_up middle d within before k e less = elim (cases_eq k middle) [
    | inl same ↦ subst (λ v. IsBefore inst b (get_or joints v e)) (sym same) (subst (λ v. IsBefore inst b v) (get_or_default joints middle d e within) before)
    | inr other ↦
        before_down inst b (get_or joints k e) (get_or joints middle e) (in_order k middle e (omega (arith, less, other)) within)
        (subst (λ v. IsBefore inst b v) (get_or_default joints middle d e within) before)
  ]

  pub step_down : (middle : ℕ) (d : Joint) → middle < length joints → (IsBefore inst b (get_or joints middle d) → ⊥) → (k : ℕ) (e : Joint) → middle ≤ k → k < length joints
      → IsBefore inst b (get_or joints k e) → ⊥
  step_down middle d within not_before k e past inside before = elim (cases_eq k middle) [
    | inl same ↦ not_before (subst (λ v. IsBefore inst b v) (get_or_default joints middle e d within) (subst (λ v. IsBefore inst b (get_or joints v e)) same before))
    | inr other ↦
        not_before (subst (λ v. IsBefore inst b v) (get_or_default joints middle e d within)
        (before_down inst b (get_or joints middle e) (get_or joints k e) (in_order middle k e (omega (arith, past, other)) inside) before))
  ]

  -- where the first that is not before the bit is of another, none is of the bit
  pub none_found : (count : ℕ) (joint : Joint) → IsCount joints inst b count → count < length joints → joint ≡ get_or joints count joint → (IsAt inst b joint → ⊥)
      → (net : ℕ) → Contains joints (joint_at inst b net) → ⊥
  none_found count joint is within here other net has =
      let wanted : Joint = joint_at inst b net in
      let at : IsAt inst b wanted = record { inst_is = refl; port_is = refl; bit_is = refl } in
      elim (cases_order has.0 count) [
        | inl same ↦
            let found : get_or joints count wanted ≡ wanted = ap (λ k. get_or joints k wanted) (sym same) ∙ has.2 in
            let one : joint ≡ wanted = here ∙ get_or_default joints count joint wanted within ∙ found in
            other (subst (λ v. IsAt inst b v) (sym one) at)
        | inr apart ↦ elim apart [
          | inl early ↦ at_not_before inst b wanted at (subst (λ v. IsBefore inst b v) has.2 (is.before has.0 wanted early))
          | inr late ↦
              let first : get_or joints count wanted ≡ joint = sym (here ∙ get_or_default joints count joint wanted within) in
              let behind : IsNotBehind joint wanted = subst (λ v. IsNotBehind v wanted) first (subst (λ v. IsNotBehind (get_or joints count wanted) v) has.2 (in_order count has.0 wanted late has.1)) in
              let not_before : IsBefore inst b joint → ⊥ = λ h. is.behind count wanted (omega arith) within (subst (λ v. IsBefore inst b v) (sym first) h) in
              other (between inst b joint wanted not_before behind at)
        ]
      ]

-- a joint of the instance does not come before its first bit
not_here : (inst : ℕ) (j : Joint) → j.inst ≡ inst → IsBefore inst (record { port = 0; bit = 0 }) j → ⊥
not_here inst j is h = elim h [
  | inl less ↦ omega (arith, less, is)
  | inr same ↦ elim same.1 [ inl less ↦ omega (arith, less) | inr port ↦ omega (arith, port.1) ]
]

-- what comes before the next instance and not before this one is of this one
of_inst : (inst : ℕ) (j : Joint) → IsBefore (inst + 1) (record { port = 0; bit = 0 }) j → (IsBefore inst (record { port = 0; bit = 0 }) j → ⊥) → j.inst ≡ inst
of_inst inst j before not_before = elim (cases_order j.inst inst) [
  | inl same ↦ same
  | inr apart ↦ elim apart [
    | inl less ↦ absurd (not_before (inl less))
    | inr more ↦ elim before [
      | inl less ↦ omega (arith, more, less)
      | inr next ↦ absurd (not_here (inst + 1) j next.0 (inr next))
    ]
  ]
]

-- the joints of an instance stand between those before it and those before the next
module _ (joints : List Joint) (inst from to : ℕ) (from_is : IsCount joints inst (record { port = 0; bit = 0 }) from) (to_is : IsCount joints (inst + 1) (record { port = 0; bit = 0 }) to) where
  pub from_first : from ≤ to
  from_first = elim (cases_lt to from) [
    | inr past ↦ past
    | inl less ↦
        let none : Joint = record { inst = 0; port = 0; bit = 0; net = 0 } in
        let j : Joint = get_or joints to none in
        let early : j.inst ≤ inst = elim (from_is.before to none less) [ inl before ↦ omega (arith, before) | inr same ↦ omega (arith, same.0) ] in
        absurd (to_is.behind to none (omega arith) (omega (arith, less, from_is.bound)) (inl (omega (arith, early))))
  ]

  pub between_counts : (j : Joint) → (Contains (drop from (take to joints)) j → Contains joints j × (j.inst ≡ inst)) × (Contains joints j × (j.inst ≡ inst) → Contains (drop from (take to joints)) j)
  between_counts j = (
    λ has.
        let low = from_first in
        let long : length (drop from (take to joints)) ≡ to - from = length-drop from (take to joints) ∙ ap (λ n. n - from) (length-take-le to joints to_is.bound) in
        let i = has.0 in
        let inside : from + i < to = omega (arith, has.1, long, low) in
        let at : get_or joints (from + i) j ≡ j = sym (get_or-take to joints (from + i) j inside) ∙ sym (get_or-drop from (take to joints) i j) ∙ has.2 in
        let before : IsBefore (inst + 1) (record { port = 0; bit = 0 }) j = subst (λ v. IsBefore (inst + 1) (record { port = 0; bit = 0 }) v) at (to_is.before (from + i) j inside) in
        let not_before : IsBefore inst (record { port = 0; bit = 0 }) j → ⊥ = λ h.
        from_is.behind (from + i) j (omega arith) (omega (arith, inside, to_is.bound)) (subst (λ v. IsBefore inst (record { port = 0; bit = 0 }) v) (sym at) h) in
        ((from + i, omega (arith, inside, to_is.bound), at), of_inst inst j before not_before),
    λ h.
        let k = h.0.0 in
        let past : from ≤ k = elim (cases_lt k from) [
          | inr past ↦ past
          | inl less ↦ absurd (not_here inst j h.1 (subst (λ v. IsBefore inst (record { port = 0; bit = 0 }) v) h.0.2 (from_is.before k j less)))
        ] in
        let inside : k < to = elim (cases_lt k to) [
          | inl less ↦ less
          | inr late ↦ absurd (to_is.behind k j late h.0.1 (subst (λ v. IsBefore (inst + 1) (record { port = 0; bit = 0 }) v) (sym h.0.2) (inl (omega (arith, h.1)))))
        ] in
        let long : length (drop from (take to joints)) ≡ to - from = length-drop from (take to joints) ∙ ap (λ n. n - from) (length-take-le to joints to_is.bound) in
        let i : ℕ = k - from in
        let back : from + i ≡ k = omega (arith, past) in
        (i, omega (arith, past, inside, long), get_or-drop from (take to joints) i j ∙ ap (λ n. get_or (take to joints) n j) back ∙ get_or-take to joints k j inside ∙ h.0.2),
  )

pub not_true : (b : Bool) → not b ≡ true → b ≡ false
not_true true h = absurd (cc)
not_true false h = refl
