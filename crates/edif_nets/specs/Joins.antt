-- The bits that nets join, in order, each with the place of its end.
use Rattle.std.specs.Prelude.{◌≡◌, ℕ, List, [], ◌∷◌, ◌++◌, map}
use Rattle.std.specs.List.{Contains, flat_map}
use Rattle.edif_spelling_spec.specs.Tree.{Placed}
use Rattle.netlist_bus_spec.specs.Members.{numbered}
use Rattle.edif_spec.specs.Design as design
use Rattle.edif_spec.specs.Faults.{place_of}
use Rattle.edif_spec.specs.declared.fault.ClashKind.TheVariants.{EndTwice}
use Rattle.edif_spec.specs.declared.fault.MeaningFault.{MeaningFault}
use Rattle.edif_spec.specs.declared.fault.MeaningFault.TheVariants.{Clash}

-- the bits alone
abbrev pub bits : List (design.End × ℕ) → List design.End
bits js = map (λ j. j.0) js

-- joining a bit that is not there adds it
abbrev pub Joined : List (design.End × ℕ) → design.End → ℕ → List (design.End × ℕ) → Type 0
Joined old e place new = (¬ Contains (bits old) e) × (new ≡ old ++ (e, place) ∷ [])

-- a bit that is joined again
abbrev pub IsTwice : List (design.End × ℕ) → design.End → ℕ → MeaningFault → Type 0
IsTwice old e place f = (earlier : ℕ) × Contains old (e, earlier) × (f ≡ Clash EndTwice place earlier)

-- one bit joined at two ends
abbrev pub SameBit : MeaningFault → design.End × ℕ → design.End × ℕ → Type 0
SameBit f a b = (a.0 ≡ b.0) × (f ≡ Clash EndTwice b.1 a.1)

-- the ends of nets
abbrev pub ends_of : List design.Net → List design.End
ends_of ns = flat_map (λ (n : design.Net). n.ends) ns

-- the ends at these forms, net by net, in a row of so many nets
abbrev pub row_of : ℕ → List Placed → List (Placed × ℕ × ℕ)
row_of size us = flat_map (λ k. map (λ u. (u, k, size)) us) (numbered (λ k. k) 0 size)

-- where such ends stand
abbrev pub places_of : List (Placed × ℕ × ℕ) → List ℕ
places_of ts = map (λ u. place_of u.0) ts
