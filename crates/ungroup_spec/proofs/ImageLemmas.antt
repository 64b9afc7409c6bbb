-- Each net has one image, and nets with one image are connected.
use Rattle.std.proofs.Common.{◌≡◌, ◌<◌, ◌+◌, ◌-◌, ◌⊎◌, ℕ, List, [], ◌∷◌, length, refl, sym, ap, subst, ◌∙◌, inl, inr, arith}
use Rattle.flat_spec.specs.Paths.{at_path, nets_at}
use Rattle.flat_spec.specs.Connection.{AreNeighbours, Connected}
use Rattle.flat_spec.proofs.ConnectionLemmas.{Connected-sym}
use Rattle.ungroup_spec.specs.Groups.{Part, inner, outer}
use Rattle.ungroup_spec.proofs.Cut.{AreLinked, Carries, CarriesInside, Cut, Dissolves, IsChild, IsPartOf, Keeps, StepTo, became}
use Rattle.ungroup_spec.proofs.Ways.{Connected-under, IsChild-same, meets_at, Way}
use Rattle.std.proofs.lemmas.Bool.{cases_eq}
use Rattle.netlist_schema.specs.Types.{CellId}
use Rattle.netlist_schema.specs.Design.{Design}
use Rattle.flat_spec.specs.Types.{NetAt}
use Rattle.flat_spec.specs.Chains.{Chain}
use Rattle.flat_spec.proofs.ChainLemmas.{Chain-same, Chain-one, Chain-mono}
use Rattle.ungroup_spec.proofs.DissolveLemmas.{StepTo-same, StepTo-not_place}

-- two cells are one or not
pub CellId-cases : (x y : CellId) → (x ≡ y) ⊎ (x ≡ y → ⊥)
CellId-cases x y =
    elim (cases_eq x.lib.0 y.lib.0) [
      | inl lib ↦ elim (cases_eq x.slot y.slot) [
        | inl slot ↦ inl (λ i. record { lib = record { 0 = lib i }; slot = slot i })
        | inr other ↦ inr (λ e. other (ap (λ (v : CellId). v.slot) e))
      ]
      | inr other ↦ inr (λ e. other (ap (λ (v : CellId). v.lib.0) e))
    ]

module _ (q : Cut) (new : Design) (is : Dissolves q new) where
  -- an instance of the cell is the dissolved one, or stands before or after it
  step_cases : (x : CellId) (s : ℕ) → ((x ≡ q.cell) × (s ≡ q.place)) ⊎ ((t : ℕ) × StepTo q x s t)
  step_cases x s =
      elim (CellId-cases x q.cell) [
        | inl here ↦ elim (split s q.place) [
          | inl same ↦ inl (here, same)
          | inr rest ↦ elim rest [
            | inl low ↦ inr (s, inr (here, inl (low, refl)))
            | inr high ↦ inr (s + q.count - 1, inr (here, inr (high, shifted s high)))
          ]
        ]
        | inr other ↦ inr (s, inl (other, refl))
      ]
    where
      split : (a b : ℕ) → (a ≡ b) ⊎ ((a < b) ⊎ (b < a))
      split a b = grind arith

      shifted : (a : ℕ) → q.place < a → a + q.count - 1 + 1 ≡ a + q.count
      shifted a high = omega (arith, high)

  keeps_one : (x : CellId) (n : ℕ) → (m : ℕ) × Keeps q x n m
  keeps_one x n =
      elim (CellId-cases x q.cell) [ inl here ↦ (q.keep n, inr (here, refl)) | inr other ↦ (n, inl (other, refl)) ]

  mutual
    -- each net has an image
    pub carried : (path : List ℕ) (x end : CellId) (n : ℕ) → Way q.old x path end → n < length (nets_at q.old end)
        → (r : List ℕ) × (m : ℕ) × Carries q x path n r m
    carried [] x end n at h =
        let m = keeps_one x n in
        ([], m.0, (refl, subst (λ v. n < length (nets_at q.old v)) at h, m.1))
    carried (s ∷ path) x end n at h =
        elim (step_cases x s) [
          | inl here ↦
              let kid_cell : IsChild q.old q.cell q.place at.0 =
              subst (λ v. IsChild q.old v q.place at.0) here.0 (subst (λ v. IsChild q.old x v at.0) here.1 at.1) in
              let same : at.0 ≡ q.child = IsChild-same q.old q.cell q.place kid_cell is.dissolved in
              let deep = carried_inside path end n (subst (λ v. Way q.old v path end) same at.2) h in
              (deep.0, deep.1, inr (here.0, here.1, deep.2))
          | inr step ↦
              let deep = carried path at.0 end n at.2 h in
              (step.0 ∷ deep.0, deep.1, inl (at.0, step.0, deep.0, at.1, step.1, deep.2, refl))
        ]

    pub carried_inside : (path : List ℕ) (end : CellId) (n : ℕ) → Way q.old q.child path end → n < length (nets_at q.old end)
        → (r : List ℕ) × (m : ℕ) × CarriesInside q path n r m
    carried_inside [] end n at h = ([], q.image n, (refl, subst (λ v. n < length (nets_at q.old v)) at h, refl))
    carried_inside (j ∷ path) end n at h =
        let deep = carried path at.0 end n at.2 h in
        ((q.place + j) ∷ deep.0, deep.1, (at.0, deep.0, at.1, deep.2, refl))

  pub Keeps-same : (x : CellId) (n m m' : ℕ) → Keeps q x n m → Keeps q x n m' → m ≡ m'
  Keeps-same x n m m' to to' =
      elim to [
        | inl other ↦ elim to' [ inl other' ↦ other.1 ∙ sym other'.1 | inr here ↦ absurd (other.0 here.0) ]
        | inr here ↦ elim to' [ inl other ↦ absurd (other.0 here.0) | inr here' ↦ here.1 ∙ sym here'.1 ]
      ]

  mutual
    -- a net has one image
    pub Carries-same : (path : List ℕ) (x : CellId) (n : ℕ) (r r' : List ℕ) (m m' : ℕ) → Carries q x path n r m → Carries q x path n r' m'
        → (r ≡ r') × (m ≡ m')
    Carries-same [] x n r r' m m' to to' = (to.0 ∙ sym to'.0, Keeps-same x n m m' to.2 to'.2)
    Carries-same (s ∷ path) x n r r' m m' to to' =
        elim to [
          | inl step ↦ elim to' [
            | inl step' ↦
                let kid : step'.0 ≡ step.0 = IsChild-same q.old x s step'.3 step.3 in
                let one : step.1 ≡ step'.1 = StepTo-same q new is x s step.1 step'.1 step.4 step'.4 in
                let deep = Carries-same path step.0 n step.2 step'.2 m m' step.5 (subst (λ v. Carries q v path n step'.2 m') kid step'.5) in
                (step.6 ∙ (λ i. one i ∷ deep.0 i) ∙ sym step'.6, deep.1)
            | inr merge' ↦ absurd (StepTo-not_place q new is x s step.1 step.4 merge'.0 merge'.1)
          ]
          | inr merge ↦ elim to' [
            | inl step' ↦ absurd (StepTo-not_place q new is x s step'.1 step'.4 merge.0 merge.1)
            | inr merge' ↦ CarriesInside-same path n r r' m m' merge.2 merge'.2
          ]
        ]

    pub CarriesInside-same : (path : List ℕ) (n : ℕ) (r r' : List ℕ) (m m' : ℕ) → CarriesInside q path n r m → CarriesInside q path n r' m'
        → (r ≡ r') × (m ≡ m')
    CarriesInside-same [] n r r' m m' to to' = (to.0 ∙ sym to'.0, to.2 ∙ sym to'.2)
    CarriesInside-same (j ∷ path) n r r' m m' to to' =
        let kid : to'.0 ≡ to.0 = IsChild-same q.old q.child j to'.2 to.2 in
        let deep = Carries-same path to.0 n to.1 to'.1 m m' to.3 (subst (λ v. Carries q v path n to'.1 m') kid to'.3) in
        (to.4 ∙ ap (λ v. (q.place + j) ∷ v) deep.0 ∙ sym to'.4, deep.1)

  -- where the net of a side stands
  abbrev pub side_at : Part → NetAt
  side_at (outer n) = at_path [] n
  side_at (inner m) = at_path (q.place ∷ []) m

  linked_connected : (u v : Part) → AreLinked q u v → Chain (AreNeighbours q.old q.cell) (side_at u) (side_at v)
  linked_connected (outer n) (inner m) link = Chain-one {R = AreNeighbours q.old q.cell} (inl (meets_at q.old q.cell q.cell q.child [] q.place n m link.0 refl is.dissolved link.1 link.2))
  linked_connected (inner m) (outer n) link = Chain-one {R = AreNeighbours q.old q.cell} (inr (meets_at q.old q.cell q.cell q.child [] q.place n m link.0 refl is.dissolved link.1 link.2))
  linked_connected (outer n) (outer n') link = absurd link
  linked_connected (inner m) (inner m') link = absurd link

  pub group_connected : (u v : Part) → IsPartOf q u → IsPartOf q v → became q u ≡ became q v → Connected q.old q.cell (side_at u) (side_at v)
  group_connected u v h k e = Chain-mono (AreLinked q) (AreNeighbours q.old q.cell) side_at linked_connected u v (is.groups u v h k e)

  -- the root's net, and another of the same image
  same_root : (path : List ℕ) (x : CellId) (n n' : ℕ) (r : List ℕ) (m : ℕ) → Carries q x [] n r m → Carries q x path n' r m
      → Connected q.old x (at_path [] n) (at_path path n')
  same_root [] x n n' r m to to' =
      elim to.2 [
        | inl other ↦ elim to'.2 [
          | inl other' ↦
              let one : n ≡ n' = sym other.1 ∙ other'.1 in
              subst (λ v. Connected q.old x (at_path [] n) (at_path [] v)) one (Chain-same (at_path [] n))
          | inr here ↦ absurd (other.0 here.0)
        ]
        | inr here ↦ elim to'.2 [
          | inl other ↦ absurd (other.0 here.0)
          | inr here' ↦ subst (λ v. Connected q.old v (at_path [] n) (at_path [] n')) (sym here.0)
              (group_connected (outer n) (outer n') (subst (λ v. n < length (nets_at q.old v)) here.0 to.1)
              (subst (λ v. n' < length (nets_at q.old v)) here.0 to'.1) (sym here.1 ∙ here'.1))
        ]
      ]
  same_root (s ∷ []) x n n' r m to to' =
      elim to' [
        | inl step ↦ absurd (cc (sym to.0 ∙ step.6))
        | inr merge ↦
            let kept : m ≡ q.keep n = elim to.2 [ inl other ↦ absurd (other.0 merge.0) | inr here ↦ here.1 ] in
            subst (λ v. Connected q.old v (at_path [] n) (at_path (s ∷ []) n')) (sym merge.0)
            (subst (λ v. Connected q.old q.cell (at_path [] n) (at_path (v ∷ []) n')) (sym merge.1)
            (group_connected (outer n) (inner n') (subst (λ v. n < length (nets_at q.old v)) merge.0 to.1) merge.2.1 (sym kept ∙ merge.2.2)))
      ]
  same_root (s ∷ j ∷ path) x n n' r m to to' =
      elim to' [ inl step ↦ absurd (cc (sym to.0 ∙ step.6)) | inr merge ↦ absurd (cc (sym to.0 ∙ merge.2.4)) ]

  StepTo-from : (x : CellId) (s s' t : ℕ) → StepTo q x s t → StepTo q x s' t → s ≡ s'
  StepTo-from x s s' t to to' =
      elim to [
        | inl other ↦ elim to' [ inl other' ↦ sym other.1 ∙ other'.1 | inr here ↦ absurd (other.0 here.0) ]
        | inr here ↦ elim to' [
          | inl other ↦ absurd (other.0 here.0)
          | inr here' ↦ elim here.1 [
            | inl low ↦ elim here'.1 [ inl low' ↦ sym low.1 ∙ low'.1 | inr high' ↦ absurd (omega (arith, low.0, low.1, high'.0, high'.1)) ]
            | inr high ↦ elim here'.1 [ inl low' ↦ absurd (omega (arith, high.0, high.1, low'.0, low'.1)) | inr high' ↦ omega (arith, high.1, high'.1) ]
          ]
        ]
      ]

  -- no other instance comes to stand among the children
  step_outside : (x : CellId) (s t j : ℕ) → x ≡ q.cell → StepTo q x s t → j < q.count → t ≡ q.place + j → ⊥
  step_outside x s t j cell_is to few e =
      elim to [
        | inl other ↦ other.0 cell_is
        | inr here ↦ elim here.1 [ inl low ↦ omega (arith, low.0, low.1, e) | inr high ↦ omega (arith, high.0, high.1, few, e) ]
      ]

  both_inner : (n n' : ℕ) → n < length (nets_at q.old q.child) → n' < length (nets_at q.old q.child) → q.image n ≡ q.image n'
      → Connected q.old q.cell (at_path (q.place ∷ []) n) (at_path (q.place ∷ []) n')
  both_inner n n' h k e = group_connected (inner n) (inner n') h k e

  -- a step elsewhere and one inside have different images
  mixed : (x : CellId) (s t : ℕ) (tail path : List ℕ) (n : ℕ) (r : List ℕ) (m : ℕ) → x ≡ q.cell → StepTo q x s t → r ≡ t ∷ tail
      → CarriesInside q path n r m → ⊥
  mixed x s t tail [] n r m cell_is to r_is inside = cc (sym inside.0 ∙ r_is)
  mixed x s t tail (j ∷ path) n r m cell_is to r_is inside =
      let whole : t ∷ tail ≡ (q.place + j) ∷ inside.1 = sym r_is ∙ inside.4 in
      let first : t ≡ q.place + j = cc whole in
      step_outside x s t j cell_is to (is.counted j inside.0 inside.2) first

  mutual
    -- nets with one image are connected
    pub same_image : (path : List ℕ) (x : CellId) (path' : List ℕ) (n n' : ℕ) (r : List ℕ) (m : ℕ) → Carries q x path n r m → Carries q x path' n' r m
        → Connected q.old x (at_path path n) (at_path path' n')
    same_image [] x path' n n' r m to to' = same_root path' x n n' r m to to'
    same_image (s ∷ path) x [] n n' r m to to' = Connected-sym q.old x (at_path [] n') (at_path (s ∷ path) n) (same_root (s ∷ path) x n' n r m to' to)
    same_image (s ∷ path) x (s' ∷ path') n n' r m to to' =
        elim to [
          | inl step ↦ elim to' [
            | inl step' ↦
                let whole : step'.1 ∷ step'.2 ≡ step.1 ∷ step.2 = sym step'.6 ∙ step.6 in
                let first : step'.1 ≡ step.1 = cc whole in
                let rest : step'.2 ≡ step.2 = cc whole in
                let one : s' ≡ s = StepTo-from x s' s step.1 (subst (λ v. StepTo q x s' v) first step'.4) step.4 in
                let kid : step'.0 ≡ step.0 = IsChild-same q.old x s (subst (λ v. IsChild q.old x v step'.0) one step'.3) step.3 in
                let deep = same_image path step.0 path' n n' step.2 m step.5
                (subst (λ v. Carries q step.0 path' n' v m) rest (subst (λ v. Carries q v path' n' step'.2 m) kid step'.5)) in
                subst (λ v. Connected q.old x (at_path (s ∷ path) n) (at_path (v ∷ path') n')) (sym one)
                (Connected-under q.old x step.0 s (at_path path n) (at_path path' n') step.3 deep)
            | inr merge' ↦ absurd (mixed x s step.1 step.2 path' n' r m merge'.0 step.4 step.6 merge'.2)
          ]
          | inr merge ↦ elim to' [
            | inl step' ↦ absurd (mixed x s' step'.1 step'.2 path n r m merge.0 step'.4 step'.6 merge.2)
            | inr merge' ↦
                subst (λ v. Connected q.old v (at_path (s ∷ path) n) (at_path (s' ∷ path') n')) (sym merge.0)
                (subst (λ v. Connected q.old q.cell (at_path (v ∷ path) n) (at_path (s' ∷ path') n')) (sym merge.1)
                (subst (λ v. Connected q.old q.cell (at_path (q.place ∷ path) n) (at_path (v ∷ path') n')) (sym merge'.1)
                (same_image_inside path path' n n' r m merge.2 merge'.2)))
          ]
        ]

    pub same_image_inside : (path path' : List ℕ) (n n' : ℕ) (r : List ℕ) (m : ℕ) → CarriesInside q path n r m → CarriesInside q path' n' r m
        → Connected q.old q.cell (at_path (q.place ∷ path) n) (at_path (q.place ∷ path') n')
    same_image_inside [] [] n n' r m to to' = both_inner n n' to.1 to'.1 (sym to.2 ∙ to'.2)
    same_image_inside [] (j ∷ path') n n' r m to to' = absurd (cc (sym to.0 ∙ to'.4))
    same_image_inside (j ∷ path) [] n n' r m to to' = absurd (cc (sym to'.0 ∙ to.4))
    same_image_inside (j ∷ path) (j' ∷ path') n n' r m to to' =
        let whole : (q.place + j') ∷ to'.1 ≡ (q.place + j) ∷ to.1 = sym to'.4 ∙ to.4 in
        let first : q.place + j' ≡ q.place + j = cc whole in
        let rest : to'.1 ≡ to.1 = cc whole in
        let one : j' ≡ j = omega (arith, first) in
        let kid : to'.0 ≡ to.0 = IsChild-same q.old q.child j (subst (λ v. IsChild q.old q.child v to'.0) one to'.2) to.2 in
        let deep = same_image path to.0 path' n n' to.1 m to.3
        (subst (λ v. Carries q to.0 path' n' v m) rest (subst (λ v. Carries q v path' n' to'.1 m) kid to'.3)) in
        let inner = Connected-under q.old q.child to.0 j (at_path path n) (at_path path' n') to.2 deep in
        subst (λ v. Connected q.old q.cell (at_path (q.place ∷ j ∷ path) n) (at_path (q.place ∷ v ∷ path') n')) (sym one)
        (Connected-under q.old q.cell q.child q.place (at_path (j ∷ path) n) (at_path (j ∷ path') n') is.dissolved inner)
