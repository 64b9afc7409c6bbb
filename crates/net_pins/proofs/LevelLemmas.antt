-- The next joint of several lists, and the first nets to which joints lead.
use Rattle.std.proofs.Common.{◌≡◌, ◌⊎◌, ◌<◌, ◌≤◌, ◌+◌, ◌-◌, ℕ, List, [], ◌∷◌, ◌++◌, length, take, drop, get_or, Bool, true, false, refl, sym, ap, subst, ◌∙◌, inl, inr, arith, Some, None, Option}
use Rattle.std.specs.List.{All, AllPairs, Contains, flat_map}
use Rattle.std.proofs.lemmas.Bool.{cases_eq, cases_lt, cases_order, false_from_ne_true, true≢false}
use Rattle.std.proofs.lemmas.List.{flat_map_more, get_or-drop, get_or-take, get_or_default, length-drop, length-take, length-take-le, take_more}
use Rattle.std.proofs.lemmas.List.Elements.{Contains-append_cases, Contains-append_left, Contains-append_right}
use Rattle.std.proofs.lemmas.Option.{none-some, same_Some, slice_get-get_or}
use Rattle.netlist_schema.specs.Types.{CellId}
use Rattle.flat_spec.specs.Paths.{Bit}
use Rattle.flat_spec.proofs.ListLemmas.{Contains-member, Member, Member-contains}
use Rattle.erc_spec.specs.Told.{BitBefore}
use Rattle.net_classes.specs.Facts.{Facts, first_at}
use Rattle.net_classes.specs.Joints.{IsNotBehind}
use Rattle.net_classes.specs.declared.joints.Joint.{Joint}
use Rattle.net_pins.specs.Levels.{AreAdded, IsLeadAdded, IsNextOf, leads_in}
use Rattle.net_pins.specs.Order.{joint_before}
use Rattle.net_rows.specs.Rows.{Table, joints_of}
use Rattle.net_ways.specs.Counts.{IsCountOf}
use Rattle.net_pins.proofs.MoveLemmas.{before_from, before_parts, bit_of, first_bit}
use Rattle.net_pins.proofs.OrderLemmas.{bits_compare, none_before_first}

-- what does not come before one joint does not come before an earlier one
pub earlier_more : (a b c : Joint) → joint_before b.inst (bit_of b) a ≡ true → joint_before b.inst (bit_of b) c ≡ false → joint_before a.inst (bit_of a) c ≡ false
earlier_more a b c less not_so = false_from_ne_true (joint_before a.inst (bit_of a) c) (λ e. true≢false (sym (before_from b.inst (bit_of b) c (more (before_parts a.inst (bit_of a) c e) (before_parts b.inst (bit_of b) a less))) ∙ not_so))
  where
    bits : (x y z : Bit) → BitBefore x y → BitBefore y z → BitBefore x z
    bits x y z h k = elim h [
      | inl p ↦ elim k [ inl q ↦ inl (omega (arith, p, q)) | inr q ↦ inl (omega (arith, p, q.0)) ]
      | inr p ↦ elim k [ inl q ↦ inl (omega (arith, p.0, q)) | inr q ↦ inr (p.0 ∙ q.0, omega (arith, p.1, q.1)) ]
    ]

    more : (c.inst < a.inst) ⊎ ((c.inst ≡ a.inst) × BitBefore (bit_of c) (bit_of a)) → (a.inst < b.inst) ⊎ ((a.inst ≡ b.inst) × BitBefore (bit_of a) (bit_of b))
        → (c.inst < b.inst) ⊎ ((c.inst ≡ b.inst) × BitBefore (bit_of c) (bit_of b))
    more h k = elim h [
      | inl p ↦ elim k [ inl q ↦ inl (omega (arith, p, q)) | inr q ↦ inl (omega (arith, p, q.0)) ]
      | inr p ↦ elim k [ inl q ↦ inl (omega (arith, p.0, q)) | inr q ↦ inr (p.0 ∙ q.0, bits (bit_of c) (bit_of a) (bit_of b) p.1 q.1) ]
    ]

-- what does not come before a joint that is not before another does not come before that one
pub later_more : (a b c : Joint) → joint_before a.inst (bit_of a) b ≡ false → joint_before b.inst (bit_of b) c ≡ false → joint_before a.inst (bit_of a) c ≡ false
later_more a b c not_so none = false_from_ne_true (joint_before a.inst (bit_of a) c) (λ e. elim (compare a b) [
  | inl less ↦ true≢false (sym less ∙ not_so)
  | inr upto ↦ elim upto [
    | inl same ↦ true≢false (sym (before_from b.inst (bit_of b) c (through (before_parts a.inst (bit_of a) c e) same)) ∙ none)
    | inr more ↦ true≢false (sym e ∙ earlier_more a b c more none)
  ]
])
  where
    compare : (a b : Joint) → (joint_before a.inst (bit_of a) b ≡ true) ⊎ (((a.inst ≡ b.inst) × (bit_of a ≡ bit_of b)) ⊎ (joint_before b.inst (bit_of b) a ≡ true))
    compare a b = elim (cases_order a.inst b.inst) [
      | inl inst ↦ elim (bits_compare (bit_of a) (bit_of b)) [
        | inl less ↦ inr (inr (before_from b.inst (bit_of b) a (inr (inst, less))))
        | inr upto ↦ elim upto [ inl same ↦ inr (inl (inst, same)) | inr more ↦ inl (before_from a.inst (bit_of a) b (inr (sym inst, more))) ]
      ]
      | inr apart ↦ elim apart [ inl less ↦ inr (inr (before_from b.inst (bit_of b) a (inl less))) | inr more ↦ inl (before_from a.inst (bit_of a) b (inl more)) ]
    ]

    through : (c.inst < a.inst) ⊎ ((c.inst ≡ a.inst) × BitBefore (bit_of c) (bit_of a)) → (a.inst ≡ b.inst) × (bit_of a ≡ bit_of b) → (c.inst < b.inst) ⊎ ((c.inst ≡ b.inst) × BitBefore (bit_of c) (bit_of b))
    through h same = elim h [
      | inl less ↦ inl (subst (λ v. c.inst < v) same.0 less)
      | inr one ↦ inr (one.0 ∙ same.0, subst (BitBefore (bit_of c)) same.1 one.1)
    ]

-- the earlier of the next joints of two lists is the next of both
pub next_of_both : (xs ys : List Joint) (inst : ℕ) (b : Bit) (first second : Joint) → IsNextOf xs inst b (Some first) → IsNextOf ys inst b (Some second)
    → (second_first : Bool) → joint_before first.inst (bit_of first) second ≡ second_first
    → ((second_first ≡ true) → IsNextOf (xs ++ ys) inst b (Some second)) × ((second_first ≡ false) → IsNextOf (xs ++ ys) inst b (Some first))
next_of_both xs ys inst b first second one two t is = (
  λ so. (
    Contains-append_right xs ys second two.0,
    two.1,
    λ j has not_so. elim (Contains-append_cases xs ys j has) [
      | inl left ↦ earlier_more second first j (is ∙ so) (one.2 j left not_so)
      | inr right ↦ two.2 j right not_so
    ],
  ),
  λ no_first. (
    Contains-append_left xs ys first one.0,
    one.1,
    λ j has not_so. elim (Contains-append_cases xs ys j has) [
      | inl left ↦ one.2 j left not_so
      | inr right ↦ later_more first second j (is ∙ no_first) (two.2 j right not_so)
    ],
  ),
)

pub next_left : (xs ys : List Joint) (inst : ℕ) (b : Bit) (o : Option Joint) → IsNextOf xs inst b o → IsNextOf ys inst b None → IsNextOf (xs ++ ys) inst b o
next_left xs ys inst b None one none = λ j has. elim (Contains-append_cases xs ys j has) [ inl left ↦ one j left | inr right ↦ none j right ]
next_left xs ys inst b (Some next) one none = (
  Contains-append_left xs ys next one.0,
  one.1,
  λ j has not_so. elim (Contains-append_cases xs ys j has) [ inl left ↦ one.2 j left not_so | inr right ↦ absurd (true≢false (sym (none j right) ∙ not_so)) ],
)

pub next_right : (xs ys : List Joint) (inst : ℕ) (b : Bit) (o : Option Joint) → IsNextOf xs inst b None → IsNextOf ys inst b o → IsNextOf (xs ++ ys) inst b o
next_right xs ys inst b None none two = λ j has. elim (Contains-append_cases xs ys j has) [ inl left ↦ none j left | inr right ↦ two j right ]
next_right xs ys inst b (Some next) none two = (
  Contains-append_right xs ys next two.0,
  two.1,
  λ j has not_so. elim (Contains-append_cases xs ys j has) [ inl left ↦ absurd (true≢false (sym (none j left) ∙ not_so)) | inr right ↦ two.2 j right not_so ],
)

-- of no joints none is next
pub none_next : (inst : ℕ) (b : Bit) → IsNextOf [] inst b None
none_next inst b = λ j has. absurd (Contains-member [] j has)

-- the leads of one more first net
pub leads_more : (cells : Table) (c : CellId) (firsts : List ℕ) (k f : ℕ) → k < length firsts → get_or firsts k f ≡ f
    → leads_in cells c (take (k + 1) firsts) ≡ leads_in cells c (take k firsts) ++ joints_of cells c f
leads_more cells c firsts k f less is =
    ap (flat_map (joints_of cells c)) (take_more firsts k f less ∙ ap (λ v. take k firsts ++ v ∷ []) is)
    ∙ sym (flat_map_more (joints_of cells c) [] (take k firsts) f)

-- first nets that are added list by list
pub added_none : (facts : Facts) (of : CellId) (inst : ℕ) (firsts : List ℕ) → AreAdded facts of inst [] firsts firsts
added_none facts of inst firsts f = (λ has. inl has, λ h. elim h [ inl has ↦ has | inr led ↦ absurd (Contains-member [] led.0 led.1) ])

pub added_both : (facts : Facts) (of : CellId) (inst : ℕ) (xs ys : List Joint) (old mid new : List ℕ) → AreAdded facts of inst xs old mid → AreAdded facts of inst ys mid new
    → AreAdded facts of inst (xs ++ ys) old new
added_both facts of inst xs ys old mid new one two f = (
  λ has. elim ((two f).0 has) [
    | inl early ↦ elim ((one f).0 early) [ inl first ↦ inl first | inr led ↦ inr (led.0, Contains-append_left xs ys led.0 led.1, led.2, led.3) ]
    | inr led ↦ inr (led.0, Contains-append_right xs ys led.0 led.1, led.2, led.3)
  ],
  λ h. elim h [
    | inl first ↦ (two f).1 (inl ((one f).1 (inl first)))
    | inr led ↦ elim (Contains-append_cases xs ys led.0 led.1) [
      | inl left ↦ (two f).1 (inl ((one f).1 (inr (led.0, left, led.2, led.3))))
      | inr right ↦ (two f).1 (inr (led.0, right, led.2, led.3))
    ]
  ],
)

-- one joint on the instance
pub added_one : (facts : Facts) (of : CellId) (inst : ℕ) (j : Joint) (o : Option ℕ) (old new : List ℕ) → j.inst ≡ inst → o ≡ first_at facts of (record { port = j.port; bit = j.bit })
    → IsLeadAdded o old new → AreAdded facts of inst (j ∷ []) old new
added_one facts of inst j o old new on_it named added f = (
  λ has. elim ((added f).0 has) [ inl early ↦ inl early | inr here ↦ inr (j, Member-contains (j ∷ []) j (inl refl), on_it, sym named ∙ here) ],
  λ h. elim h [
    | inl early ↦ (added f).1 (inl early)
    | inr led ↦ (added f).1 (inr (named ∙ ap (λ (v : Joint). first_at facts of (record { port = v.port; bit = v.bit })) (only led.0 (Contains-member (j ∷ []) led.0 led.1)) ∙ led.3))
  ],
)
  where
    only : (v : Joint) → Member (j ∷ []) v → j ≡ v
    only v m = elim m [ inl same ↦ same | inr none ↦ absurd none ]

-- joints of other instances add nothing
pub added_others : (facts : Facts) (of : CellId) (inst : ℕ) (xs ys : List Joint) (old new : List ℕ) → ((j : Joint) → Contains ys j → j.inst ≡ inst → Contains xs j) → ((j : Joint) → Contains xs j → j.inst ≡ inst → Contains ys j)
    → AreAdded facts of inst xs old new → AreAdded facts of inst ys old new
added_others facts of inst xs ys old new inside wider h f = (
  λ has. elim ((h f).0 has) [ inl early ↦ inl early | inr led ↦ inr (led.0, wider led.0 led.1 led.2, led.2, led.3) ],
  λ k. elim k [ inl early ↦ (h f).1 (inl early) | inr led ↦ (h f).1 (inr (led.0, inside led.0 led.1 led.2, led.2, led.3)) ],
)

-- the rest of a list from a place on is in order too
pub order_drop : {A : Type 0} (R : A → A → Type 0) (n : ℕ) (xs : List A) → AllPairs R xs → AllPairs R (drop n xs)
order_drop R n xs pairs i j d less within =
    let long = length-drop n xs in
    subst (λ v. R v (get_or (drop n xs) j d)) (sym (get_or-drop n xs i d))
    (subst (R (get_or xs (n + i) d)) (sym (get_or-drop n xs j d)) (pairs (n + i) (n + j) d (omega (arith, less)) (omega (arith, within, long))))

-- the joints from the first one on that does not come before those of an instance
module _ (joints : List Joint) (inst count : ℕ) (is : IsCountOf (joint_before inst first_bit) joints count) where
  pub from_front : All (λ j. inst ≤ j.inst) (drop count joints)
  from_front i d within =
      let long = length-drop count joints in
      let place : count + i < length joints = omega (arith, within, long) in
      let back = is.back (count + i) (get_or joints (count + i) d) (omega arith) (slice_get-get_or joints (count + i) d place) in
      subst (λ (j : Joint). inst ≤ j.inst) (sym (get_or-drop count joints i d)) (at_least (get_or joints (count + i) d) back)
    where
      at_least : (x : Joint) → joint_before inst first_bit x ≡ false → inst ≤ x.inst
      at_least x not_so = elim (cases_lt x.inst inst) [
        | inl less ↦ absurd (true≢false (sym (before_from inst first_bit x (inl less)) ∙ not_so))
        | inr more ↦ more
      ]

  pub from_all : (j : Joint) → j.inst ≡ inst → (Contains (drop count joints) j → Contains joints j) × (Contains joints j → Contains (drop count joints) j)
  from_all j on_it = (to, back)
    where
      to : Contains (drop count joints) j → Contains joints j
      to has =
          let long = length-drop count joints in
          let within = has.1 in
          (count + has.0, omega (arith, within, long), sym (get_or-drop count joints has.0 j) ∙ has.2)

      not_first : joint_before inst first_bit j ≡ true → ⊥
      not_first e = elim (before_parts inst first_bit j e) [
        | inl less ↦ omega (arith, less, on_it)
        | inr same ↦ none_before_first (bit_of j) same.1
      ]

      back : Contains joints j → Contains (drop count joints) j
      back has = elim (cases_lt has.0 count) [
        | inl less ↦ absurd (not_first (subst (λ (v : Joint). joint_before inst first_bit v ≡ true) has.2
            (is.front has.0 (get_or joints has.0 j) less (slice_get-get_or joints has.0 j has.1))))
        | inr more ↦
            let long = length-drop count joints in
            let within = has.1 in
            let same : count + (has.0 - count) ≡ has.0 = omega (arith, more) in
            (has.0 - count, omega (arith, within, more, long), get_or-drop count joints (has.0 - count) j ∙ ap (λ n. get_or joints n j) same ∙ has.2)
      ]

-- joints in order, where one behind those of an instance was met
stops_at : (joints : List Joint) (inst k : ℕ) (x : Joint) → AllPairs IsNotBehind joints → All (λ j. inst ≤ j.inst) joints → k < length joints → get_or joints k x ≡ x
    → (x.inst ≡ inst → ⊥) → (j : Joint) → Contains joints j → j.inst ≡ inst → Contains (take k joints) j
stops_at joints inst k x order front within is other j has on_it = elim (cases_lt has.0 k) [
  | inl less ↦ (has.0, (let long = length-take-le k joints (omega (arith, within)) in omega (arith, less, long)), get_or-take k joints has.0 j less ∙ has.2)
  | inr more ↦ absurd (later more (cases_eq has.0 k))
]
  where
    low : inst ≤ x.inst
    low = subst (λ (v : Joint). inst ≤ v.inst) is (front k x within)

    here : get_or joints k j ≡ x
    here = get_or_default joints k j x within ∙ is

    behind : (a b : Joint) → IsNotBehind a b → a ≡ x → b ≡ j → ⊥
    behind a b order a_is b_is = elim order [
      | inl less ↦ other (one a b a_is b_is (omega (arith, less)))
      | inr same ↦ other (one a b a_is b_is (omega (arith, same.0)))
    ]
      where
        one : (a b : Joint) → a ≡ x → b ≡ j → a.inst ≤ b.inst → x.inst ≡ inst
        one a b a_is b_is upto =
            let first = ap (λ (v : Joint). v.inst) a_is in
            let second = ap (λ (v : Joint). v.inst) b_is in
            omega (arith, low, upto, first, second, on_it)

    later : k ≤ has.0 → (has.0 ≡ k) ⊎ ((has.0 ≡ k) → ⊥) → ⊥
    later more (inl same) =
        let one : x ≡ j = sym here ∙ ap (λ n. get_or joints n j) (sym same) ∙ has.2 in
        other (ap (λ (v : Joint). v.inst) one ∙ on_it)
    later more (inr apart) = behind (get_or joints k j) (get_or joints has.0 j) (order k has.0 j (omega (arith, more, apart)) has.1) here has.2

-- then all that are on the instance were added
pub added_stop : (facts : Facts) (of : CellId) (joints : List Joint) (inst k : ℕ) (x : Joint) → AllPairs IsNotBehind joints → All (λ j. inst ≤ j.inst) joints → k < length joints
    → get_or joints k x ≡ x → (x.inst ≡ inst → ⊥) → (old new : List ℕ) → AreAdded facts of inst (take k joints) old new → AreAdded facts of inst joints old new
added_stop facts of joints inst k x order front within is other old new h =
    added_others facts of inst (take k joints) joints old new (stops_at joints inst k x order front within is other) among h
  where
    among : (j : Joint) → Contains (take k joints) j → j.inst ≡ inst → Contains joints j
    among j has on_it =
        let long = length-take k joints in
        let less = has.1 in
        (has.0, omega (arith, less, long), sym (get_or-take k joints has.0 j (omega (arith, less, long))) ∙ has.2)

-- a number is added behind those that are there, or was there
pub lead_pushed : (first : ℕ) (old : List ℕ) → IsLeadAdded (Some first) old (old ++ first ∷ [])
lead_pushed first old f = (
  λ has. elim (Contains-append_cases old (first ∷ []) f has) [
    | inl early ↦ inl early
    | inr late ↦ inr (ap Some (only (Contains-member (first ∷ []) f late)))
  ],
  λ h. elim h [
    | inl early ↦ Contains-append_left old (first ∷ []) f early
    | inr same ↦ Contains-append_right old (first ∷ []) f (Member-contains (first ∷ []) f (inl (same_Some first f same)))
  ],
)
  where
    only : Member (first ∷ []) f → first ≡ f
    only m = elim m [ inl same ↦ same | inr none ↦ absurd none ]

pub lead_there : (first : ℕ) (old : List ℕ) → Contains old first → IsLeadAdded (Some first) old old
lead_there first old has f = (λ h. inl h, λ h. elim h [ inl early ↦ early | inr same ↦ subst (Contains old) (same_Some first f same) has ])

pub lead_none : (old : List ℕ) → IsLeadAdded None old old
lead_none old f = (λ h. inl h, λ h. elim h [ inl early ↦ early | inr none ↦ absurd (none-some f none) ])
