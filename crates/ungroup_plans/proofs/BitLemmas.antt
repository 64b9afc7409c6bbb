-- The listed bits are those that nets join there.
use Rattle.std.proofs.Common.{◌≡◌, ◌+◌, ℕ, zero, suc, List, [], ◌∷◌, Bool, true, false, refl, sym, ap, subst, inl, inr, arith, Some, None, Option, cond}
use Rattle.std.specs.List.{flat_map}
use Rattle.std.proofs.lemmas.Bool.{eqb-true, eq-eqb, false≢true}
use Rattle.netlist_schema.specs.Types.{End, Net}
use Rattle.flat_spec.proofs.ListLemmas.{Member, Member-append_left, Member-append_right, Member-append_cases, Contains-member, Member-contains}
use Rattle.ungroup_spec.specs.Groups.{ends_of_net}
use Rattle.ungroup_plans.specs.Bits.{IsJoined, bits_from, bits_of, end_at, is_there}
use Rattle.ungroup_plans.specs.declared.bits.JoinedBit.{JoinedBit}

there : (inst of_end : Option ℕ) → is_there inst of_end ≡ true → of_end ≡ inst
there None None e = refl
there None (Some k) e = absurd (false≢true e)
there (Some i) None e = absurd (false≢true e)
there (Some i) (Some k) e = ap (λ v. Some v) (eqb-true k i e)

is_there-same : (inst : Option ℕ) → is_there inst inst ≡ true
is_there-same None = refl
is_there-same (Some i) = eq-eqb i i refl

abbrev bit_of_end : ℕ → End → JoinedBit
bit_of_end net end = record { at = record { port = end.port; bit = end.bit }; net = net }

one : (inst : Option ℕ) (net : ℕ) (end : End) (j : JoinedBit) → Member (bits_of inst net end) j → (j.net ≡ net) × (end ≡ end_at inst j.at)
one inst net end j m = go (is_there inst end.inst) refl m
  where
    go : (b : Bool) → is_there inst end.inst ≡ b → Member (cond b (bit_of_end net end ∷ []) []) j → (j.net ≡ net) × (end ≡ end_at inst j.at)
    go true is m = elim m [
      | inl same ↦
          let at : end.inst ≡ inst = there inst end.inst is in (
            sym (ap (λ (v : JoinedBit). v.net) same),
            λ t. record { inst = at t; port = (same t).at.port; bit = (same t).at.bit },
          )
      | inr none ↦ absurd none
    ]
    go false is m = absurd m

of_net : (inst : Option ℕ) (net : ℕ) (ends : List End) (j : JoinedBit) → Member (flat_map (bits_of inst net) ends) j → (j.net ≡ net) × Member ends (end_at inst j.at)
of_net inst net [] j m = absurd m
of_net inst net (e ∷ ends) j m =
    elim (Member-append_cases (bits_of inst net e) (flat_map (bits_of inst net) ends) j m) [
      | inl here ↦ let h = one inst net e j here in (h.0, inl h.1)
      | inr later ↦ let h = of_net inst net ends j later in (h.0, inr h.1)
    ]

from_net : (inst : Option ℕ) (net : ℕ) (ends : List End) (j : JoinedBit) → j.net ≡ net → Member ends (end_at inst j.at) → Member (flat_map (bits_of inst net) ends) j
from_net inst net [] j is m = absurd m
from_net inst net (e ∷ ends) j is m =
    elim m [
      | inl here ↦
          let at : Member (bits_of inst net (end_at inst j.at)) j =
          subst (λ b. Member (cond b (bit_of_end net (end_at inst j.at) ∷ []) []) j) (sym (is_there-same inst)) (inl (λ t. record { at = j.at; net = sym is t })) in
          Member-append_left (bits_of inst net e) (flat_map (bits_of inst net) ends) j (subst (λ v. Member (bits_of inst net v) j) (sym here) at)
      | inr later ↦ Member-append_right (bits_of inst net e) (flat_map (bits_of inst net) ends) j (from_net inst net ends j is later)
    ]

listed : (inst : Option ℕ) (place : ℕ) (nets : List Net) (j : JoinedBit) → Member (bits_from inst place nets) j
    → (k : ℕ) × (j.net ≡ place + k) × Member (ends_of_net nets k) (end_at inst j.at)
listed inst place [] j m = absurd m
listed inst place (net ∷ nets) j m =
    elim (Member-append_cases (flat_map (bits_of inst place) net.ends) (bits_from inst (place + 1) nets) j m) [
      | inl here ↦ let h = of_net inst place net.ends j here in (0, omega (arith, h.0), h.1)
      | inr later ↦ let h = listed inst (place + 1) nets j later in (suc h.0, omega (arith, h.1), h.2)
    ]

is_listed : (inst : Option ℕ) (place k : ℕ) (nets : List Net) (j : JoinedBit) → j.net ≡ place + k → Member (ends_of_net nets k) (end_at inst j.at)
    → Member (bits_from inst place nets) j
is_listed inst place k [] j is m = absurd m
is_listed inst place zero (net ∷ nets) j is m =
    Member-append_left (flat_map (bits_of inst place) net.ends) (bits_from inst (place + 1) nets) j (from_net inst place net.ends j (omega (arith, is)) m)
is_listed inst place (suc k) (net ∷ nets) j is m =
    Member-append_right (flat_map (bits_of inst place) net.ends) (bits_from inst (place + 1) nets) j
    (is_listed inst (place + 1) k nets j (omega (arith, is)) m)

-- a bit is listed exactly where its net joins it
pub listed_joined : (inst : Option ℕ) (nets : List Net) (j : JoinedBit) → Member (bits_from inst 0 nets) j → IsJoined nets inst j
listed_joined inst nets j m =
    let h = listed inst 0 nets j m in
    let same : h.0 ≡ j.net = omega (arith, h.1) in
    Member-contains (ends_of_net nets j.net) (end_at inst j.at) (subst (λ k. Member (ends_of_net nets k) (end_at inst j.at)) same h.2)

pub joined_listed : (inst : Option ℕ) (nets : List Net) (j : JoinedBit) → IsJoined nets inst j → Member (bits_from inst 0 nets) j
joined_listed inst nets j c =
    is_listed inst 0 j.net nets j (omega arith) (Contains-member (ends_of_net nets j.net) (end_at inst j.at) c)
