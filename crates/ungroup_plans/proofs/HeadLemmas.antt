-- The least number to which pairs lead is that of the first net of the group.
use Rattle.std.proofs.Common.{◌≡◌, ◌<◌, ◌≤◌, ◌+◌, ◌-◌, ◌^◌, ◌⊎◌, ℕ, List, [], length, get_or, refl, sym, ap, subst, ◌∙◌, inl, inr, arith, Some, None, Option, cond, nat_lt}
use Rattle.std.specs.Prelude.{option_map}
use Rattle.std.specs.List.{All, Contains, filter_map}
use Rattle.std.proofs.lemmas.Bool.{lt-ltb, le-ltb, cond-true, cond-false}
use Rattle.std.proofs.lemmas.List.{get_or_default}
use Rattle.netlist_schema.specs.Types.{Contents, Inst, Net}
use Rattle.flat_spec.specs.Chains.{Chain}
use Rattle.flat_spec.specs.Paths.{own, on}
use Rattle.flat_spec.proofs.ChainLemmas.{Chain-same, Chain-one, Chain-mono}
use Rattle.flat_spec.proofs.ListLemmas.{Member, Contains-member, Member-contains}
use Rattle.ungroup_spec.proofs.TreeLemmas.{Member-filter_map, Member-from_filter_map}
use Rattle.flat_joined_numbers.specs.Joined.{AreJoined, AreLeastJoined, IsWithin}
use Rattle.flat_joined_numbers.specs.declared.joined.Pair.{Pair}
use Rattle.ungroup_spec.specs.Groups.{Site, Part, outer, inner, IsPart, ShareBit, AreLinked, AreOneGroup, head_of}
use Rattle.ungroup_spec.proofs.GroupLemmas.{PartBefore, head_of-head, ends-net}
use Rattle.ungroup_plans.specs.Bits.{IsJoined, bits_from, end_at}
use Rattle.ungroup_plans.specs.Heads.{AreHeads, AreSound, number, site}
use Rattle.ungroup_plans.specs.Links.{HasNets, link}
use Rattle.ungroup_plans.specs.declared.bits.JoinedBit.{JoinedBit}
use Rattle.ungroup_plans.specs.declared.bits.PortBit.{PortBit}
use Rattle.ungroup_plans.proofs.BitLemmas.{joined_listed, listed_joined}
use Rattle.ungroup_plans.proofs.LinkLemmas.{link_is}

-- the nets that join listed bits are numbered within bounds
pub links_fit : (inst : Option ℕ) (nets : List Net) (bits : List JoinedBit) (behind : ℕ) → bits ≡ bits_from inst 0 nets → length nets ≤ 1048576 → behind ≤ 1048576 → All (λ j. behind + j.net < 2 ^ 32) bits
links_fit inst nets bits behind is few low k d inside =
    let j = get_or bits k d in
    let c : Contains bits j = (k, inside, get_or_default bits k j d inside) in
    let joined = listed_joined inst nets j (subst (λ v. Member v j) is (Contains-member bits j c)) in
    let less : j.net < length nets = ends-net nets j.net (end_at inst j.at) joined in
    omega (arith, less, few, low)

-- some instance: which one it is does not matter for what nets join
abbrev pub no_inst : Inst
no_inst = record { name = record { id = []; shown = None }; of = record { lib = record { 0 = 0 }; slot = 0 }; designator = None; properties = [] }

-- the net with a number
abbrev part_of : ℕ → ℕ → Part
part_of a k = cond (nat_lt k a) (outer k) (inner (k - a))

part_outer : (a n : ℕ) → n < a → part_of a n ≡ outer n
part_outer a n h = cond-true _ _ _ (lt-ltb n a h)

part_inner : (a m : ℕ) → part_of a (a + m) ≡ inner m
part_inner a m =
    let rest : a + m - a ≡ m = omega arith in
    cond-false _ _ _ (le-ltb (a + m) a (omega arith)) ∙ ap inner rest

-- the net with the number of a net is that net
pub part_number : (s : Site) (x : Part) → IsPart s x → part_of (length s.around.nets) (number s x) ≡ x
part_number s (outer n) h = part_outer (length s.around.nets) n h
part_number s (inner m) h = part_inner (length s.around.nets) m

pub number_same : (s : Site) (x y : Part) → IsPart s x → IsPart s y → number s x ≡ number s y → x ≡ y
number_same s x y x_is y_is e = sym (part_number s x x_is) ∙ ap (part_of (length s.around.nets)) e ∙ part_number s y y_is

module _ (around : Contents) (place : ℕ) (within : Contents) (nets : PortBit → Option ℕ) (pairs : List Pair)
    (sound : AreSound around) (has : HasNets (bits_from (Some place) 0 around.nets) nets)
    (is : pairs ≡ filter_map (link nets (length around.nets)) (bits_from None 0 within.nets)) (inst : Inst) where
  abbrev s : Site
  s = site around place inst within

  abbrev a : ℕ
  a = length around.nets

  -- a pair is of an outer net and an inner one that share a bit
  record IsLink (pair : Pair) : Type 0 where
    n : ℕ
    m : ℕ
    pair_is : pair ≡ record { first = n; second = a + m }
    share : ShareBit s n m

  link-sound : (pair : Pair) → Contains pairs pair → IsLink pair
  link-sound pair c =
      let found = Member-from_filter_map (link nets a) (bits_from None 0 within.nets) pair (subst (λ v. Member v pair) is (Contains-member pairs pair c)) in
      let j = found.0 in
      let of_link = link_is nets a j pair found.2 in
      let n = of_link.0 in
      let noted = has.noted j.at n of_link.1 in
      let out : IsJoined around.nets (Some place) (record { at = j.at; net = n }) =
      listed_joined (Some place) around.nets (record { at = j.at; net = n }) (Contains-member (bits_from (Some place) 0 around.nets) (record { at = j.at; net = n }) noted) in
      let inn : IsJoined within.nets None j = listed_joined None within.nets j found.1 in
      record {
        n = n;
        m = j.net;
        pair_is = of_link.2;
        share = (record { port = j.at.port; bit = j.at.bit }, out, inn);
      }

  link-complete : (n m : ℕ) → ShareBit s n m → Contains pairs (record { first = n; second = a + m })
  link-complete n m share =
      let b : PortBit = record { port = share.0.port; bit = share.0.bit } in
      let j : JoinedBit = record { at = b; net = m } in
      let o : JoinedBit = record { at = b; net = n } in
      let listed : Member (bits_from None 0 within.nets) j = joined_listed None within.nets j share.2 in
      let noted : Contains (bits_from (Some place) 0 around.nets) o =
      Member-contains (bits_from (Some place) 0 around.nets) o (joined_listed (Some place) around.nets o share.1) in
      let known = has.known o noted in
      let other : IsJoined around.nets (Some place) (record { at = b; net = known.0 }) =
      listed_joined (Some place) around.nets (record { at = b; net = known.0 })
      (Contains-member (bits_from (Some place) 0 around.nets) (record { at = b; net = known.0 }) (has.noted b known.0 known.1)) in
      let one : known.0 ≡ n = sound.once known.0 n (end_at (Some place) b) other share.1 in
      let at : nets b ≡ Some n = known.1 ∙ ap (λ v. Some v) one in
      let linked : link nets a j ≡ Some (record { first = n; second = a + m }) =
      ap (option_map (λ v. let p : Pair = record { first = v; second = a + m } in p)) at in
      Member-contains pairs (record { first = n; second = a + m })
      (subst (λ v. Member v (record { first = n; second = a + m })) (sym is) (Member-filter_map (link nets a) (bits_from None 0 within.nets) j (record { first = n; second = a + m }) listed linked))

  linked_joined : (x y : Part) → AreLinked s x y → AreJoined pairs (number s x) (number s y)
  linked_joined (outer n) (inner m) l = (record { first = n; second = a + m }, link-complete n m l, inl (refl, refl))
  linked_joined (inner m) (outer n) l = (record { first = n; second = a + m }, link-complete n m l, inr (refl, refl))
  linked_joined (outer n) (outer k) l = absurd l
  linked_joined (inner m) (inner k) l = absurd l

  joined_linked : (u v : ℕ) → AreJoined pairs u v → AreLinked s (part_of a u) (part_of a v)
  joined_linked u v j =
      let link = link-sound j.0 j.1 in
      let low : link.n < a = ends-net around.nets link.n (on place link.share.0) link.share.1 in
      let first : part_of a j.0.first ≡ outer link.n = ap (λ (p : Pair). part_of a p.first) link.pair_is ∙ part_outer a link.n low in
      let second : part_of a j.0.second ≡ inner link.m = ap (λ (p : Pair). part_of a p.second) link.pair_is ∙ part_inner a link.m in
      elim j.2 [
        | inl ahead ↦
            let x : part_of a u ≡ outer link.n = ap (part_of a) (sym ahead.0) ∙ first in
            let y : part_of a v ≡ inner link.m = ap (part_of a) (sym ahead.1) ∙ second in
            subst (λ w. AreLinked s w (part_of a v)) (sym x) (subst (λ w. AreLinked s (outer link.n) w) (sym y) link.share)
        | inr back ↦
            let x : part_of a u ≡ inner link.m = ap (part_of a) (sym back.1) ∙ second in
            let y : part_of a v ≡ outer link.n = ap (part_of a) (sym back.0) ∙ first in
            subst (λ w. AreLinked s w (part_of a v)) (sym x) (subst (λ w. AreLinked s (inner link.m) w) (sym y) link.share)
      ]

  -- pairs lead between the numbers of nets of one group, and between no others
  group_chain : (x y : Part) → AreOneGroup s x y → Chain (AreJoined pairs) (number s x) (number s y)
  group_chain x y k =
      Chain-mono (AreLinked s) (AreJoined pairs) (number s) (λ v w l. Chain-one {R = AreJoined pairs} (linked_joined v w l)) x y k

  chain_group : (u v : ℕ) → Chain (AreJoined pairs) u v → AreOneGroup s (part_of a u) (part_of a v)
  chain_group u v k =
      Chain-mono (AreJoined pairs) (AreLinked s) (part_of a) (λ x y j. Chain-one {R = AreLinked s} (joined_linked x y j)) u v k

  part_is : (k : ℕ) → k < a + length within.nets → IsPart s (part_of a k)
  part_is k h = elim (split k a) [
    | inl low ↦ subst (IsPart s) (sym (part_outer a k low)) low
    | inr high ↦ subst (IsPart s) (sym (beyond k high)) (omega (arith, h, high))
  ]
    where
      split : (k a : ℕ) → (k < a) ⊎ (a ≤ k)
      split k a = grind arith

      beyond : (k : ℕ) → a ≤ k → part_of a k ≡ inner (k - a)
      beyond k high = let e : a + (k - a) ≡ k = omega (arith, high) in subst (λ v. part_of a v ≡ inner (k - a)) e (part_inner a (k - a))

  number_within : (x : Part) → IsPart s x → number s x < a + length within.nets
  number_within (outer n) h = omega (arith, h)
  number_within (inner m) h = omega (arith, h)

  -- of two nets the one with the lesser number comes first
  number_before : (k : ℕ) (h : Part) → IsPart s h → k < number s h → PartBefore (part_of a k) h
  number_before k (outer n) is less =
      let low : k < a = omega (arith, less, is) in
      subst (λ v. PartBefore v (outer n)) (sym (part_outer a k low)) less
  number_before k (inner m) is less = elim (split k a) [
    | inl low ↦ subst (λ v. PartBefore v (inner m)) (sym (part_outer a k low)) tt
    | inr high ↦
        let e : a + (k - a) ≡ k = omega (arith, high) in
        let here : part_of a k ≡ inner (k - a) = subst (λ v. part_of a v ≡ inner (k - a)) e (part_inner a (k - a)) in
        subst (λ v. PartBefore v (inner m)) (sym here) (omega (arith, less, high))
  ]
    where
      split : (k a : ℕ) → (k < a) ⊎ (a ≤ k)
      split k a = grind arith

  pub pairs_within : All (IsWithin (a + length within.nets)) pairs
  pairs_within k d inside =
      let pair = get_or pairs k d in
      let link = link-sound pair (k, inside, get_or_default pairs k pair d inside) in
      let low : link.n < a = ends-net around.nets link.n (on place link.share.0) link.share.1 in
      let high : link.m < length within.nets = ends-net within.nets link.m (own link.share.0) link.share.2 in
      let first : pair.first ≡ link.n = ap (λ (p : Pair). p.first) link.pair_is in
      let second : pair.second ≡ a + link.m = ap (λ (p : Pair). p.second) link.pair_is in
      record { first = omega (arith, first, low); second = omega (arith, second, high) }

  pub heads_are : (heads : List ℕ) → AreLeastJoined (a + length within.nets) pairs heads → AreHeads s heads
  heads_are heads least = record { long = least.long; each = each }
    where
      split : (l h : ℕ) → l ≤ h → (l < h) ⊎ (l ≡ h)
      split l h less = grind arith

      each : (x : Part) → IsPart s x → get_or heads (number s x) 0 ≡ number s (head_of s x)
      each x x_is =
          let k = number s x in
          let k_within = number_within x x_is in
          let l = get_or heads k 0 in
          let is_least = least.each k k_within in
          let h = head_of s x in
          let head = head_of-head s x x_is in
          let under : l ≤ number s h = is_least.none_less (number s h) (group_chain x h head.grouped) in
          let itself : l ≤ k = is_least.none_less k (Chain-same {R = AreJoined pairs} k) in
          let l_is = part_is l (omega (arith, itself, k_within)) in
          let grouped : AreOneGroup s x (part_of a l) = subst (λ v. AreOneGroup s v (part_of a l)) (part_number s x x_is) (chain_group k l is_least.reached) in
          elim (split l (number s h) under) [
            | inl less ↦ absurd (head.least (part_of a l) l_is grouped (number_before l h head.part less))
            | inr same ↦ same
          ]
