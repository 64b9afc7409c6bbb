-- The listed joints are those of the ends of nets.
use Rattle.std.proofs.Common.{◌≡◌, ◌<◌, ◌+◌, ℕ, zero, suc, List, [], ◌∷◌, ◌++◌, length, get_or, drop, sym, ap, subst, ◌∙◌, inl, inr, arith, Some, None, Option, slice_get}
use Rattle.std.specs.List.{Contains, flat_map}
use Rattle.std.specs.List.Sorted.{IsPermutation}
use Rattle.std.specs.Option.{option_map_or}
use Rattle.std.proofs.lemmas.List.Sorted.{Contains-permutation, IsPermutation-sym}
use Rattle.netlist_schema.specs.Types.{End, Net}
use Rattle.flat_spec.specs.Paths.{on}
use Rattle.flat_spec.proofs.ListLemmas.{Member, Member-append_left, Member-append_right, Member-append_cases, Contains-member, Member-contains}
use Rattle.net_classes.specs.Joints.{IsJointIn, joint_of, joints_from}
use Rattle.net_classes.specs.declared.joints.Joint.{Joint}
use Rattle.net_classes.proofs.RunLemmas.{drop-first, part_more}

abbrev pub end_of : Joint → End
end_of j = on j.inst (record { port = j.port; bit = j.bit })

abbrev ends_in : List Net → ℕ → List End
ends_in nets n = option_map_or (λ (net : Net). net.ends) (slice_get nets n) []

one : (net : ℕ) (inst : Option ℕ) (port bit : ℕ) (j : Joint) → Member (joint_of net (record { inst = inst; port = port; bit = bit })) j
    → (j.net ≡ net) × (record { inst = inst; port = port; bit = bit } ≡ end_of j)
one net None port bit j m = absurd m
one net (Some i) port bit j m =
    elim m [ inl same ↦ (sym (ap (λ (v : Joint). v.net) same), ap end_of same) | inr none ↦ absurd none ]

of_net : (net : ℕ) (ends : List End) (j : Joint) → Member (flat_map (joint_of net) ends) j → (j.net ≡ net) × Member ends (end_of j)
of_net net [] j m = absurd m
of_net net (e ∷ ends) j m =
    elim (Member-append_cases (joint_of net e) (flat_map (joint_of net) ends) j m) [
      | inl here ↦ let h = one net e.inst e.port e.bit j here in (h.0, inl h.1)
      | inr there ↦ let h = of_net net ends j there in (h.0, inr h.1)
    ]

from_net : (net : ℕ) (ends : List End) (j : Joint) → j.net ≡ net → Member ends (end_of j) → Member (flat_map (joint_of net) ends) j
from_net net [] j is m = absurd m
from_net net (e ∷ ends) j is m =
    elim m [
      | inl here ↦
          let at : Member (joint_of net (end_of j)) j = inl (λ t. record { inst = j.inst; port = j.port; bit = j.bit; net = sym is t }) in
          Member-append_left (joint_of net e) (flat_map (joint_of net) ends) j (subst (λ v. Member (joint_of net v) j) (sym here) at)
      | inr there ↦ Member-append_right (joint_of net e) (flat_map (joint_of net) ends) j (from_net net ends j is there)
    ]

listed : (place : ℕ) (nets : List Net) (j : Joint) → Member (joints_from place nets) j → (k : ℕ) × (j.net ≡ place + k) × Member (ends_in nets k) (end_of j)
listed place [] j m = absurd m
listed place (net ∷ nets) j m =
    elim (Member-append_cases (flat_map (joint_of place) net.ends) (joints_from (place + 1) nets) j m) [
      | inl here ↦ let h = of_net place net.ends j here in (0, omega (arith, h.0), h.1)
      | inr there ↦ let h = listed (place + 1) nets j there in (suc h.0, omega (arith, h.1), h.2)
    ]

is_listed : (place k : ℕ) (nets : List Net) (j : Joint) → j.net ≡ place + k → Member (ends_in nets k) (end_of j) → Member (joints_from place nets) j
is_listed place k [] j is m = absurd m
is_listed place zero (net ∷ nets) j is m =
    Member-append_left (flat_map (joint_of place) net.ends) (joints_from (place + 1) nets) j (from_net place net.ends j (omega (arith, is)) m)
is_listed place (suc k) (net ∷ nets) j is m =
    Member-append_right (flat_map (joint_of place) net.ends) (joints_from (place + 1) nets) j
    (is_listed (place + 1) k nets j (omega (arith, is)) m)

-- in whatever order
pub permuted_joints : (nets : List Net) (joints : List Joint) → IsPermutation (joints_from 0 nets) joints → (j : Joint)
    → (Contains joints j → IsJointIn nets j) × (IsJointIn nets j → Contains joints j)
permuted_joints nets joints p j = (
  λ there.
      let h = listed 0 nets j (Contains-member (joints_from 0 nets) j (Contains-permutation joints (joints_from 0 nets) j (IsPermutation-sym (joints_from 0 nets) joints p) there)) in
      Member-contains (ends_in nets j.net) (end_of j) (subst (λ k. Member (ends_in nets k) (end_of j)) (same h.0 h.1) h.2),
  λ there.
      Contains-permutation (joints_from 0 nets) joints j p
      (Member-contains (joints_from 0 nets) j (is_listed 0 j.net nets j (omega arith) (Contains-member (ends_in nets j.net) (end_of j) there))),
)
  where
    same : (k : ℕ) → j.net ≡ 0 + k → k ≡ j.net
    same k e = omega (arith, e)

-- one net more
pub net_more : (nets : List Net) (i : ℕ) (net : Net) (found added whole : List Joint) → i < length nets → net ≡ get_or nets i net
    → added ≡ found ++ flat_map (joint_of i) net.ends → found ++ joints_from i (drop i nets) ≡ whole
    → added ++ joints_from (i + 1) (drop (i + 1) nets) ≡ whole
net_more nets i net found added whole within is added_is so_far =
    let opened : joints_from i (drop i nets) ≡ flat_map (joint_of i) net.ends ++ joints_from (i + 1) (drop (i + 1) nets) =
    ap (joints_from i) (drop-first nets i net within is) in
    part_more (flat_map (joint_of i) net.ends) (joints_from (i + 1) (drop (i + 1) nets)) found added whole added_is
    (sym (ap (λ v. found ++ v) opened) ∙ so_far)
