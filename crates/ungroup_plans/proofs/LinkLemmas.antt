-- Nets by bits, and the pairs of nets that join one bit.
use Rattle.std.proofs.Common.{◌≡◌, ◌<◌, ◌+◌, ℕ, List, [], ◌∷◌, ◌++◌, Bool, true, false, length, get_or, take, refl, sym, ap, subst, ◌∙◌, inl, inr, arith, Some, None, Option}
use Rattle.std.specs.Prelude.{option_map}
use Rattle.std.specs.List.{Contains}
use Rattle.std.specs.FinMap.{nat_cmp-IsAntisymmetric}
use Rattle.std.specs.Ordering.{is_eq, nat_cmp}
use Rattle.std.proofs.lemmas.List.{take_more}
use Rattle.std.proofs.lemmas.List.Elements.{Contains-push, Contains-push_cases, Contains-append_left}
use Rattle.netlist_schema.proofs.Objects.{both_are_Equal}
use Rattle.flat_joined_numbers.specs.declared.joined.Pair.{Pair}
use Rattle.ungroup_plans.specs.Links.{HasNets, bit_cmp, link}
use Rattle.ungroup_plans.specs.declared.bits.JoinedBit.{JoinedBit}
use Rattle.ungroup_plans.specs.declared.bits.PortBit.{PortBit}

same_bit : (k q : PortBit) → is_eq (bit_cmp k q) ≡ true → k ≡ q
same_bit k q e =
    let both = both_are_Equal (nat_cmp k.port q.port) (nat_cmp k.bit q.bit) e in
    λ i. record { port = nat_cmp-IsAntisymmetric k.port q.port both.0 i; bit = nat_cmp-IsAntisymmetric k.bit q.bit both.1 i }

-- one bit more
net_more : (bits : List JoinedBit) (x : JoinedBit) (nets after : PortBit → Option ℕ) → HasNets bits nets → after x.at ≡ Some x.net
    → ((q : PortBit) → is_eq (bit_cmp x.at q) ≡ false → after q ≡ nets q) → HasNets (bits ++ x ∷ []) after
net_more bits x nets after has here others = record {
  noted = λ b n at. noted_at b n at (is_eq (bit_cmp x.at b)) refl;
  known = λ j there. elim (Contains-push_cases bits x j there) [
    | inl old ↦ known_at j old (is_eq (bit_cmp x.at j.at)) refl
    | inr same ↦ (x.net, subst (λ (v : JoinedBit). after v.at ≡ Some x.net) same here)
  ];
}
  where
    noted_at : (b : PortBit) (n : ℕ) → after b ≡ Some n → (t : Bool) → is_eq (bit_cmp x.at b) ≡ t → Contains (bits ++ x ∷ []) (record { at = b; net = n })
    noted_at b n at true e =
        let bit = same_bit x.at b e in
        let net : x.net ≡ n = cc (here, ap after bit, at) in
        subst (λ (v : JoinedBit). Contains (bits ++ x ∷ []) v) (λ i. record { at = bit i; net = net i }) (Contains-push bits x)
    noted_at b n at false e = Contains-append_left bits (x ∷ []) (record { at = b; net = n }) (has.noted b n (sym (others b e) ∙ at))

    known_at : (j : JoinedBit) → Contains bits j → (t : Bool) → is_eq (bit_cmp x.at j.at) ≡ t → (n : ℕ) × (after j.at ≡ Some n)
    known_at j old true e = (x.net, ap after (sym (same_bit x.at j.at e)) ∙ here)
    known_at j old false e = let h = has.known j old in (h.0, others j.at e ∙ h.1)

pub net_step : (bits : List JoinedBit) (i : ℕ) (x : JoinedBit) (nets after : PortBit → Option ℕ) → i < length bits → x ≡ get_or bits i x → HasNets (take i bits) nets
    → after x.at ≡ Some x.net → ((q : PortBit) → is_eq (bit_cmp x.at q) ≡ false → after q ≡ nets q) → HasNets (take (i + 1) bits) after
net_step bits i x nets after within is has here others =
    subst (λ v. HasNets v after) (sym (take_more bits i x within ∙ ap (λ v. take i bits ++ v ∷ []) (sym is))) (net_more (take i bits) x nets after has here others)

pub no_nets : (nets : PortBit → Option ℕ) → ((q : PortBit) → nets q ≡ None) → HasNets [] nets
no_nets nets none = record {
  noted = λ b n at. absurd (cc (none b, at));
  known = λ j there. absurd (omega-none there);
}
  where
    omega-none : {j : JoinedBit} → Contains [] j → ⊥
    omega-none c = absurd (omega (arith, c.1))

-- ---- pairs

-- a pair is of a net that was noted, and of that of the bit
pub link_is : (outer : PortBit → Option ℕ) (behind : ℕ) (j : JoinedBit) (pair : Pair) → link outer behind j ≡ Some pair
    → (n : ℕ) × (outer j.at ≡ Some n) × (pair ≡ record { first = n; second = behind + j.net })
link_is outer behind j pair e = go (outer j.at) refl e
  where
    go : (o : Option ℕ) → outer j.at ≡ o → option_map (λ n. let p : Pair = record { first = n; second = behind + j.net } in p) o ≡ Some pair
        → (n : ℕ) × (outer j.at ≡ Some n) × (pair ≡ record { first = n; second = behind + j.net })
    go None is e = absurd (cc e)
    go (Some n) is e = (n, is, sym (cc e))
