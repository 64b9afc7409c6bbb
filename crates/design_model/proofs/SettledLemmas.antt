-- Settled labels are the places of the representatives.
use Rattle.std.proofs.Common.{◌≡◌, ◌<◌, ◌≤◌, ◌⊎◌, ℕ, List, [], ◌∷◌, length, get_or, refl, sym, ap, subst, ◌∙◌, inl, inr, arith, Some}
use Rattle.std.proofs.lemmas.List.{get_or_default}
use Rattle.std.proofs.lemmas.Option.{slice_get_within, slice_get-get_or, get_or_from_slice_get}
use Rattle.netlist_schema.specs.Design.{Design}
use Rattle.netlist_schema.specs.Hierarchy.{NoCellIsBelowItself}
use Rattle.netlist_schema.specs.Types.{CellId}
use Rattle.flat_spec.specs.Chains.{Leads}
use Rattle.flat_spec.specs.Connection.{AreNeighbours, Connected}
use Rattle.flat_spec.specs.Occurrences.{nets}
use Rattle.flat_spec.specs.PathOrder.{NetBefore}
use Rattle.flat_spec.specs.Paths.{IsNet}
use Rattle.flat_spec.specs.Representatives.{IsRepresentative, representative}
use Rattle.flat_spec.specs.Types.{NetAt}
use Rattle.flat_spec.proofs.ConnectionLemmas.{AreNeighbours-sym, Connected-append}
use Rattle.flat_spec.proofs.OccurrenceLemmas.{nets_are_all}
use Rattle.flat_spec.proofs.RepresentativeLemmas.{AreNeighbours-net, representative-first}
use Rattle.design_model.specs.Firsts.{AreFirsts}
use Rattle.design_model.specs.Labels.{AreLabels, AreSettled, net_at_place}
use Rattle.design_model.proofs.LabelLemmas.{near-from}

-- what stands past the end of a list of nets
abbrev no_net : NetAt
no_net = record { path = []; net = 0 }

-- each net of the tree stands at a place of the list
net-place : (d : Design) → NoCellIsBelowItself d → (root : CellId) (x : NetAt) → IsNet d root x
    → (k : ℕ) × (k < length (nets d root)) × (net_at_place (nets d root) k ≡ x)
net-place d acyclic root x is =
    let found = ((nets_are_all d root acyclic).each x).1 is in
    (found.0, found.1, get_or_default (nets d root) found.0 no_net x found.1 ∙ found.2)

-- at each place stands a net of the tree
place-net : (d : Design) → NoCellIsBelowItself d → (root : CellId) (k : ℕ) → k < length (nets d root)
    → IsNet d root (net_at_place (nets d root) k)
place-net d acyclic root k within =
    ((nets_are_all d root acyclic).each (net_at_place (nets d root) k)).0
    (k, within, get_or_default (nets d root) k (net_at_place (nets d root) k) no_net within)

-- a net to which neighbours lead has the same label
settled-leads : (d : Design) (root : CellId) (xs : List NetAt) (labels : List ℕ)
    → ((x y : NetAt) → AreNeighbours d root x y → (k : ℕ) × (k < length xs) × (net_at_place xs k ≡ y))
    → AreSettled d root xs labels → (i : ℕ) → i < length xs → (y : NetAt) (via : List NetAt)
    → Leads (AreNeighbours d root) (net_at_place xs i) via y
    → (j : ℕ) × (j < length xs) × (net_at_place xs j ≡ y) × (get_or labels i 0 ≡ get_or labels j 0)
settled-leads d root xs labels listed settled i within y [] e = (i, within, e, refl)
settled-leads d root xs labels listed settled i within y (z ∷ via) e =
    let found = listed (net_at_place xs i) z e.0 in
    let there : AreNeighbours d root (net_at_place xs i) (net_at_place xs found.0) =
    subst (λ v. AreNeighbours d root (net_at_place xs i) v) (sym found.2) e.0 in
    let back = AreNeighbours-sym d root (net_at_place xs i) (net_at_place xs found.0) there in
    let low : get_or labels i 0 ≤ get_or labels found.0 0 = settled i within found.0 found.1 (near-from d root xs i found.0 there) in
    let high : get_or labels found.0 0 ≤ get_or labels i 0 = settled found.0 found.1 i within (near-from d root xs found.0 i back) in
    let onward = settled-leads d root xs labels listed settled found.0 found.1 y via
    (subst (λ v. Leads (AreNeighbours d root) v via y) (sym found.2) e.1) in
    (onward.0, onward.1, onward.2, omega (arith, low, high, onward.3))

-- the first of connected nets is its own label
first-label : (d : Design) → NoCellIsBelowItself d → (root : CellId) (labels : List ℕ) → AreLabels d root (nets d root) labels
    → (x first : NetAt) → IsRepresentative d root x first → (f : ℕ) → f < length (nets d root) → net_at_place (nets d root) f ≡ first
    → get_or labels f 0 ≡ f
first-label d acyclic root labels are x first is f within at =
    elim (split (get_or labels f 0) f (are.earlier f within)) [
      | inl same ↦ same
      | inr less ↦
          let reached : Connected d root first (net_at_place (nets d root) (get_or labels f 0)) =
          subst (λ v. Connected d root v (net_at_place (nets d root) (get_or labels f 0))) at (are.connected f within) in
          let before : NetBefore (net_at_place (nets d root) (get_or labels f 0)) first =
          subst (λ v. NetBefore (net_at_place (nets d root) (get_or labels f 0)) v) at
          ((nets_are_all d root acyclic).in_order (get_or labels f 0) f no_net less within) in
          absurd (is.least (net_at_place (nets d root) (get_or labels f 0))
          (Connected-append d root x first (net_at_place (nets d root) (get_or labels f 0)) is.connected reached) before)
    ]
  where
    split : (a b : ℕ) → a ≤ b → (a ≡ b) ⊎ (a < b)
    split a b h = grind arith

-- a settled label is the place of the representative
settled-representative : (d : Design) → NoCellIsBelowItself d → (root : CellId) (labels : List ℕ) → AreLabels d root (nets d root) labels
    → AreSettled d root (nets d root) labels → (i : ℕ) → i < length (nets d root)
    → net_at_place (nets d root) (get_or labels i 0) ≡ representative d root (net_at_place (nets d root) i)
settled-representative d acyclic root labels are settled i within =
    let is = representative-first d acyclic root (net_at_place (nets d root) i) (place-net d acyclic root i within) in
    let found = settled-leads d root (nets d root) labels (λ x y t. net-place d acyclic root y (AreNeighbours-net d root x y t)) settled
    i within (representative d root (net_at_place (nets d root) i)) is.connected.0 is.connected.1 in
    let own = first-label d acyclic root labels are (net_at_place (nets d root) i) (representative d root (net_at_place (nets d root) i)) is
    found.0 found.1 found.2 in
    ap (net_at_place (nets d root)) (found.3 ∙ own) ∙ found.2

settled-places : (d : Design) → NoCellIsBelowItself d → (root : CellId) (labels : List ℕ) → AreLabels d root (nets d root) labels
    → AreSettled d root (nets d root) labels → AreFirsts d root (nets d root) labels
settled-places d acyclic root labels are settled = record {
  long = are.long;
  first = λ i x found.
      let within = slice_get_within (nets d root) i x found in
      let at : net_at_place (nets d root) i ≡ x = get_or_from_slice_get (nets d root) i x no_net found in
      let earlier : get_or labels i 0 < length (nets d root) = omega (arith, within, are.earlier i within) in
      slice_get-get_or (nets d root) (get_or labels i 0) no_net earlier
      ∙ ap Some (settled-representative d acyclic root labels are settled i within ∙ ap (representative d root) at);
}

-- settled labels of the nets of a tree are the places of their representatives
pub settled-firsts : (d : Design) → NoCellIsBelowItself d → (root : CellId) (xs : List NetAt) (labels : List ℕ) → xs ≡ nets d root
    → AreLabels d root xs labels → AreSettled d root xs labels → AreFirsts d root xs labels
settled-firsts d acyclic root xs labels listed are settled =
    subst (λ v. AreFirsts d root v labels) (sym listed)
    (settled-places d acyclic root labels (subst (λ v. AreLabels d root v labels) listed are)
    (subst (λ v. AreSettled d root v labels) listed settled))
