-- The image of a first net comes first.
use Rattle.std.proofs.Common.{◌≡◌, ◌<◌, ◌+◌, ℕ, List, [], ◌∷◌, ◌++◌, length, refl, sym, ap, subst, ◌∙◌, inl, inr, arith}
use Rattle.flat_spec.specs.Paths.{at_path, at_root, nets_at}
use Rattle.flat_spec.specs.Connection.{AreNeighbours, Connected}
use Rattle.flat_spec.specs.Representatives.{IsRepresentative}
use Rattle.flat_spec.proofs.ConnectionLemmas.{Connected-sym}
use Rattle.ungroup_spec.specs.Groups.{inner, outer}
use Rattle.ungroup_spec.proofs.Cut.{Carries, CarriesInside, Cut, Dissolves, IsChild}
use Rattle.ungroup_spec.proofs.Ways.{Connected-under, IsChild-same, Way}
use Rattle.netlist_schema.specs.Types.{CellId}
use Rattle.netlist_schema.specs.Design.{Design}
use Rattle.flat_spec.specs.Types.{NetAt}
use Rattle.flat_spec.specs.Chains.{Leads}
use Rattle.flat_spec.specs.PathOrder.{NetBefore}
use Rattle.flat_spec.proofs.ChainLemmas.{Chain-append}
use Rattle.ungroup_spec.proofs.BackLemmas.{onward, backward, touch_back}
use Rattle.ungroup_spec.proofs.DissolveLemmas.{StepTo-same, StepTo-not_place}
use Rattle.ungroup_spec.proofs.ImageLemmas.{group_connected}
use Rattle.ungroup_spec.proofs.TopLemmas.{Connected-under_first}

-- no net that is connected with this one comes before it
abbrev pub IsLeast : Design → CellId → List ℕ → ℕ → Type 0
IsLeast d x path n = (y : NetAt) → Connected d x (at_path path n) y → NetBefore y (at_path path n) → ⊥

-- a net of the root comes before another only within the root
root_before : (r : List ℕ) (m m' : ℕ) → NetBefore (at_path r m) (at_path [] m') → (r ≡ []) × (m < m')
root_before [] m m' h = elim h [ inl never ↦ absurd never | inr within ↦ (refl, within.1) ]
root_before (i ∷ r) m m' h = elim h [ inl never ↦ absurd never | inr within ↦ absurd (cc within.0) ]

-- nets below one instance are ordered as in its own tree
before_under : (t : ℕ) (r r' : List ℕ) (m m' : ℕ) → NetBefore (at_path (t ∷ r) m) (at_path (t ∷ r') m') → NetBefore (at_path r m) (at_path r' m')
before_under t r r' m m' h =
    elim h [
      | inl path ↦ elim path [ inl less ↦ absurd (omega (arith, less)) | inr deep ↦ inl deep.1 ]
      | inr within ↦ let tails : r ≡ r' = cc within.0 in inr (tails, within.1)
    ]

IsLeast-under : (d : Design) (x k : CellId) (s : ℕ) (path : List ℕ) (n : ℕ) → IsChild d x s k → IsLeast d x (s ∷ path) n → IsLeast d k path n
IsLeast-under d x k s path n kid least y conn before =
    least (at_path (s ∷ y.path) y.net) (Connected-under d x k s (at_path path n) y kid conn)
    (elim before [ inl path_before ↦ inl (inr (refl, path_before)) | inr within ↦ inr (ap (λ p. s ∷ p) within.0, within.1) ])

module _ (q : Cut) (new : Design) (is : Dissolves q new) where
  mutual
    order : (path : List ℕ) (x c : CellId) (rest : List ℕ) (n w : ℕ) (r : List ℕ) (m : ℕ) (r' : List ℕ) (m' : ℕ)
        → Way q.old x path c → Carries q x path n r m → Carries q x (path ++ rest) w r' m'
        → Connected q.old c (at_root n) (at_path rest w) → IsLeast q.old x path n → NetBefore (at_path r' m') (at_path r m) → ⊥
    order [] x c [] n w r m r' m' at to to' conn least before =
        let here : Connected q.old x (at_root n) (at_root w) = subst (λ v. Connected q.old v (at_root n) (at_root w)) at conn in
        let low = root_before r' m' m (subst (λ v. NetBefore (at_path r' m') (at_path v m)) to.0 before) in
        elim to.2 [
          | inl other ↦ elim to'.2 [
            | inl other' ↦ least (at_root w) here (inr (refl, omega (arith, low.1, other.1, other'.1)))
            | inr cell ↦ other.0 cell.0
          ]
          | inr cell ↦ elim to'.2 [
            | inl other ↦ other.0 cell.0
            | inr cell' ↦
                let less : q.keep w < q.keep n = omega (arith, low.1, cell.1, cell'.1) in
                let n_net : n < length (nets_at q.old q.cell) = subst (λ v. n < length (nets_at q.old v)) cell.0 to.1 in
                let w_net : w < length (nets_at q.old q.cell) = subst (λ v. w < length (nets_at q.old v)) cell.0 to'.1 in
                let o = is.kept_order w n w_net n_net less in
                let group : Connected q.old x (at_root w) (at_root o.0) = subst (λ v. Connected q.old v (at_root w) (at_root o.0)) (sym cell.0)
                (group_connected q new is (outer w) (outer o.0) w_net o.2 (sym o.3)) in
                least (at_root o.0) (Chain-append (AreNeighbours q.old x) here group) (inr (refl, o.1))
          ]
        ]
    order [] x c (s ∷ []) n w r m r' m' at to to' conn least before =
        let low = root_before r' m' m (subst (λ v. NetBefore (at_path r' m') (at_path v m)) to.0 before) in
        elim to' [
          | inl step ↦ cc (sym low.0 ∙ step.6)
          | inr merge ↦
              let kept : m ≡ q.keep n = elim to.2 [ inl other ↦ absurd (other.0 merge.0) | inr cell ↦ cell.1 ] in
              let less : q.image w < q.keep n = omega (arith, low.1, kept, merge.2.2) in
              let n_net : n < length (nets_at q.old q.cell) = subst (λ v. n < length (nets_at q.old v)) merge.0 to.1 in
              let o = is.image_kept_order w n merge.2.1 n_net less in
              let here : Connected q.old q.cell (at_root n) (at_path (q.place ∷ []) w) =
              subst (λ v. Connected q.old q.cell (at_root n) (at_path (v ∷ []) w)) merge.1
              (subst (λ v. Connected q.old v (at_root n) (at_path (s ∷ []) w)) (at ∙ merge.0) conn) in
              let group = group_connected q new is (inner w) (outer o.0) merge.2.1 o.2 (sym o.3) in
              let whole : Connected q.old x (at_root n) (at_root o.0) = subst (λ v. Connected q.old v (at_root n) (at_root o.0)) (sym merge.0)
              (Chain-append (AreNeighbours q.old q.cell) here group) in
              least (at_root o.0) whole (inr (refl, o.1))
        ]
    order [] x c (s ∷ j ∷ rest) n w r m r' m' at to to' conn least before =
        let low = root_before r' m' m (subst (λ v. NetBefore (at_path r' m') (at_path v m)) to.0 before) in
        elim to' [ inl step ↦ cc (sym low.0 ∙ step.6) | inr merge ↦ cc (sym low.0 ∙ merge.2.4) ]
    order (s ∷ path) x c rest n w r m r' m' at to to' conn least before =
        elim to [
          | inl step ↦ elim to' [
            | inl step' ↦
                let one : step'.1 ≡ step.1 = StepTo-same q new is x s step'.1 step.1 step'.4 step.4 in
                let kid : step'.0 ≡ step.0 = IsChild-same q.old x s step'.3 step.3 in
                let same : at.0 ≡ step.0 = IsChild-same q.old x s at.1 step.3 in
                let r'_is : r' ≡ step.1 ∷ step'.2 = step'.6 ∙ ap (λ v. v ∷ step'.2) one in
                let both : NetBefore (at_path (step.1 ∷ step'.2) m') (at_path (step.1 ∷ step.2) m) =
                subst (λ v. NetBefore (at_path v m') (at_path (step.1 ∷ step.2) m)) r'_is (subst (λ v. NetBefore (at_path r' m') (at_path v m)) step.6 before) in
                order path step.0 c rest n w step.2 m step'.2 m' (subst (λ v. Way q.old v path c) same at.2) step.5
                (subst (λ v. Carries q v (path ++ rest) w step'.2 m') kid step'.5) conn (IsLeast-under q.old x step.0 s path n step.3 least)
                (before_under step.1 step'.2 step.2 m' m both)
            | inr merge' ↦ StepTo-not_place q new is x s step.1 step.4 merge'.0 merge'.1
          ]
          | inr merge ↦ elim to' [
            | inl step' ↦ StepTo-not_place q new is x s step'.1 step'.4 merge.0 merge.1
            | inr merge' ↦
                let kid_cell : IsChild q.old q.cell q.place at.0 =
                subst (λ v. IsChild q.old v q.place at.0) merge.0 (subst (λ v. IsChild q.old x v at.0) merge.1 at.1) in
                let same : at.0 ≡ q.child = IsChild-same q.old q.cell q.place kid_cell is.dissolved in
                order_inside path c rest n w r m r' m' (subst (λ v. Way q.old v path c) same at.2) merge.2 merge'.2 conn
                (subst (λ v. IsLeast q.old v (q.place ∷ path) n) merge.0 (subst (λ v. IsLeast q.old x (v ∷ path) n) merge.1 least)) before
          ]
        ]

    order_inside : (path : List ℕ) (c : CellId) (rest : List ℕ) (n w : ℕ) (r : List ℕ) (m : ℕ) (r' : List ℕ) (m' : ℕ)
        → Way q.old q.child path c → CarriesInside q path n r m → CarriesInside q (path ++ rest) w r' m'
        → Connected q.old c (at_root n) (at_path rest w) → IsLeast q.old q.cell (q.place ∷ path) n → NetBefore (at_path r' m') (at_path r m) → ⊥
    order_inside [] c [] n w r m r' m' at to to' conn least before =
        let low = root_before r' m' m (subst (λ v. NetBefore (at_path r' m') (at_path v m)) to.0 before) in
        let less : q.image w < q.image n = omega (arith, low.1, to.2, to'.2) in
        let within : Connected q.old q.child (at_root n) (at_root w) = subst (λ v. Connected q.old v (at_root n) (at_root w)) at conn in
        let here = Connected-under q.old q.cell q.child q.place (at_root n) (at_root w) is.dissolved within in
        elim (is.image_order w n to'.1 to.1 less) [
          | inl of_outer ↦ elim of_outer.2 [
            | inl with_w ↦
                least (at_root of_outer.0)
                (Chain-append (AreNeighbours q.old q.cell) here (group_connected q new is (inner w) (outer of_outer.0) to'.1 of_outer.1 (sym with_w)))
                (inl tt)
            | inr with_n ↦ least (at_root of_outer.0) (group_connected q new is (inner n) (outer of_outer.0) to.1 of_outer.1 (sym with_n)) (inl tt)
          ]
          | inr earlier ↦ least (at_path (q.place ∷ []) w) here (inr (refl, earlier))
        ]
    order_inside [] c (j ∷ rest) n w r m r' m' at to to' conn least before =
        let low = root_before r' m' m (subst (λ v. NetBefore (at_path r' m') (at_path v m)) to.0 before) in
        cc (sym low.0 ∙ to'.4)
    order_inside (j ∷ path) c rest n w r m r' m' at to to' conn least before =
        let kid : to'.0 ≡ to.0 = IsChild-same q.old q.child j to'.2 to.2 in
        let same : at.0 ≡ to.0 = IsChild-same q.old q.child j at.1 to.2 in
        let both : NetBefore (at_path ((q.place + j) ∷ to'.1) m') (at_path ((q.place + j) ∷ to.1) m) =
        subst (λ v. NetBefore (at_path v m') (at_path ((q.place + j) ∷ to.1) m)) to'.4 (subst (λ v. NetBefore (at_path r' m') (at_path v m)) to.4 before) in
        order path to.0 c rest n w to.1 m to'.1 m' (subst (λ v. Way q.old v path c) same at.2) to.3
        (subst (λ v. Carries q v (path ++ rest) w to'.1 m') kid to'.3) conn
        (IsLeast-under q.old q.child to.0 j path n to.2 (IsLeast-under q.old q.cell q.child q.place (j ∷ path) n is.dissolved least))
        (before_under (q.place + j) to'.1 to.1 m' m both)

  -- a net that is connected with an image is an image
  preimage : (root : CellId) (x y : NetAt) (via : List NetAt) (p : List ℕ) (n : ℕ) → Leads (AreNeighbours new root) x via y
      → Carries q root p n x.path x.net → (p' : List ℕ) × (n' : ℕ) × Carries q root p' n' y.path y.net
  preimage root x y [] p n e from = (p, n, subst (λ v. Carries q root p n v.path v.net) e from)
  preimage root x y (z ∷ via) p n e from =
      let came = touch_back q new is root x z e.0 in
      preimage root z y via came.2 came.3 e.1 came.5

  pub IsRepresentative-carried : (root c : CellId) (p r : List ℕ) (m n : ℕ) (p' r' : List ℕ) (m' n' : ℕ)
      → Carries q root p m p' m' → Carries q root r n r' n' → Way q.old root r c
      → IsRepresentative q.old root (at_path p m) (at_path r n) → IsRepresentative new root (at_path p' m') (at_path r' n')
  IsRepresentative-carried root c p r m n p' r' m' n' to first_to at is_rep =
      let k = is_rep.connected in
      let least : IsLeast q.old root r n = λ y conn before. is_rep.least y (Chain-append (AreNeighbours q.old root) k conn) before in
      record {
        connected = onward q new is root (at_path p m) (at_path r n) k.0 p' m' r' n' k.1 to first_to;
        least = λ y conn before.
            let from = preimage root (at_path p' m') y conn.0 p m conn.1 to in
            let back = backward q new is root (at_path p' m') y conn.0 p m from.0 from.1 conn.1 to from.2 in
            let first_back : Connected q.old root (at_path r n) (at_path from.0 from.1) =
            Chain-append (AreNeighbours q.old root) (Connected-sym q.old root (at_path p m) (at_path r n) k) back in
            let below = Connected-under_first q.old root r n c at least (at_path from.0 from.1) first_back in
            order r root c below.0 n from.1 r' n' y.path y.net at first_to
            (subst (λ v. Carries q root v from.1 y.path y.net) below.1 from.2) below.2 least before;
      }
