-- What meets is carried to what meets or is one net.
use Rattle.std.proofs.Common.{◌≡◌, ◌+◌, ℕ, List, [], ◌∷◌, ◌++◌, refl, sym, ap, subst, ◌∙◌, inl, inr, arith, Some}
use Rattle.flat_spec.specs.Paths.{Bit, at_path, on, own}
use Rattle.flat_spec.specs.Connection.{AreNeighbours, Connected}
use Rattle.ungroup_spec.proofs.Cut.{Carries, CarriesInside, Cut, Dissolves, IsChild, JoinsIn, Keeps, StepTo}
use Rattle.ungroup_spec.proofs.Ways.{Connected-under, IsChild-same, Way, meets_at}
use Rattle.std.specs.Prelude.{slice_get}
use Rattle.netlist_schema.specs.Types.{CellId}
use Rattle.netlist_schema.specs.Design.{Design}
use Rattle.netlist_schema.specs.Types.{Inst}
use Rattle.netlist_schema.specs.Types.{Net}
use Rattle.flat_spec.specs.Types.{NetAt}
use Rattle.flat_spec.proofs.ChainLemmas.{Chain-same, Chain-one}

module _ (q : Cut) (new : Design) (is : Dissolves q new) where
  pub step_child : (x : CellId) (s t : ℕ) (k : CellId) → StepTo q x s t → IsChild q.old x s k → IsChild new x t k
  step_child x s t k to kid =
      elim to [
        | inl other ↦ subst (λ v. IsChild new x v k) (sym other.1)
            (kid.0, subst (λ (v : List Inst). slice_get v s ≡ Some kid.0) (sym (is.other_insts x other.0)) kid.1, kid.2)
        | inr here ↦ subst (λ v. IsChild new v t k) (sym here.0)
            ((is.shifted s t k here.1).0 (subst (λ v. IsChild q.old v s k) here.0 kid))
      ]

  pub own_carried : (x : CellId) (n m : ℕ) (b : Bit) → Keeps q x n m → JoinsIn q.old x n (own b) → JoinsIn new x m (own b)
  own_carried x n m b to joins =
      elim to [
        | inl other ↦ subst (λ v. JoinsIn new x v (own b)) (sym other.1)
            (joins.0, subst (λ (v : List Net). slice_get v n ≡ Some joins.0) (sym (is.other_nets x other.0)) joins.1, joins.2)
        | inr here ↦ subst (λ v. JoinsIn new v m (own b)) (sym here.0)
            (subst (λ v. JoinsIn new q.cell v (own b)) (sym here.1) (is.own_kept n b (subst (λ v. JoinsIn q.old v n (own b)) here.0 joins)))
      ]

  pub on_carried : (x : CellId) (n m s t : ℕ) (b : Bit) → Keeps q x n m → StepTo q x s t → JoinsIn q.old x n (on s b) → JoinsIn new x m (on t b)
  on_carried x n m s t b to step joins =
      elim to [
        | inl other ↦ elim step [
          | inl same ↦ subst (λ v. JoinsIn new x v (on t b)) (sym other.1) (subst (λ v. JoinsIn new x n (on v b)) (sym same.1)
              (joins.0, subst (λ (v : List Net). slice_get v n ≡ Some joins.0) (sym (is.other_nets x other.0)) joins.1, joins.2))
          | inr here ↦ absurd (other.0 here.0)
        ]
        | inr here ↦ elim step [
          | inl same ↦ absurd (same.0 here.0)
          | inr shifts ↦ subst (λ v. JoinsIn new v m (on t b)) (sym here.0)
              (subst (λ v. JoinsIn new q.cell v (on t b)) (sym here.1) (is.on_kept n s t b shifts.1 (subst (λ v. JoinsIn q.old v n (on s b)) here.0 joins)))
        ]
      ]

  pub StepTo-same : (x : CellId) (s t t' : ℕ) → StepTo q x s t → StepTo q x s t' → t ≡ t'
  StepTo-same x s t t' to to' =
      elim to [
        | inl other ↦ elim to' [ inl same ↦ other.1 ∙ sym same.1 | inr here ↦ absurd (other.0 here.0) ]
        | inr here ↦ elim to' [
          | inl same ↦ absurd (same.0 here.0)
          | inr there ↦ elim here.1 [
            | inl low ↦ elim there.1 [ inl low' ↦ low.1 ∙ sym low'.1 | inr high' ↦ absurd (omega (arith, low.0, high'.0)) ]
            | inr high ↦ elim there.1 [ inl low' ↦ absurd (omega (arith, high.0, low'.0)) | inr high' ↦ omega (arith, high.1, high'.1) ]
          ]
        ]
      ]

  pub StepTo-not_place : (x : CellId) (s t : ℕ) → StepTo q x s t → x ≡ q.cell → s ≡ q.place → ⊥
  StepTo-not_place x s t to cell_is place_is =
      elim to [
        | inl other ↦ other.0 cell_is
        | inr here ↦ elim here.1 [ inl low ↦ omega (arith, low.0, place_is) | inr high ↦ omega (arith, high.0, place_is) ]
      ]

  mutual
    pub forward : (path : List ℕ) (x a b : CellId) (t m n : ℕ) (bit : Bit)
        → Way q.old x path a → IsChild q.old a t b → JoinsIn q.old a m (on t bit) → JoinsIn q.old b n (own bit)
        → (r : List ℕ) (m' : ℕ) (r' : List ℕ) (n' : ℕ) → Carries q x path m r m' → Carries q x (path ++ t ∷ []) n r' n'
        → Connected new x (at_path r m') (at_path r' n')
    forward [] x a b t m n bit at kid over inner r m' r' n' up low =
        let kid_here : IsChild q.old x t b = subst (λ v. IsChild q.old v t b) at kid in
        let over_here : JoinsIn q.old x m (on t bit) = subst (λ v. JoinsIn q.old v m (on t bit)) at over in
        elim low [
          | inl step ↦
              let same : b ≡ step.0 = IsChild-same q.old x t kid_here step.3 in
              let child_joins = own_carried step.0 n n' bit step.5.2 (subst (λ v. JoinsIn q.old v n (own bit)) same inner) in
              let meets = meets_at new x x step.0 [] step.1 m' n' bit refl (step_child x t step.1 step.0 step.4 step.3)
              (on_carried x m m' t step.1 bit up.2 step.4 over_here) child_joins in
              let path_is : r' ≡ step.1 ∷ [] = step.6 ∙ ap (λ v. step.1 ∷ v) step.5.0 in
              subst (λ v. Connected new x (at_path v m') (at_path r' n')) (sym up.0)
              (subst (λ v. Connected new x (at_path [] m') (at_path v n')) (sym path_is) (Chain-one {R = AreNeighbours new x} (inl meets)))
          | inr merge ↦
              let over_cell : JoinsIn q.old q.cell m (on q.place bit) =
              subst (λ v. JoinsIn q.old v m (on q.place bit)) merge.0 (subst (λ v. JoinsIn q.old x m (on v bit)) merge.1 over_here) in
              let kid_cell : IsChild q.old q.cell q.place b =
              subst (λ v. IsChild q.old v q.place b) merge.0 (subst (λ v. IsChild q.old x v b) merge.1 kid_here) in
              let same : b ≡ q.child = IsChild-same q.old q.cell q.place kid_cell is.dissolved in
              let one : q.keep m ≡ q.image n = is.grouped m n (bit, over_cell, subst (λ v. JoinsIn q.old v n (own bit)) same inner) in
              let kept : m' ≡ q.keep m = elim up.2 [ inl other ↦ absurd (other.0 merge.0) | inr here ↦ here.1 ] in
              let net_is : m' ≡ n' = kept ∙ one ∙ sym merge.2.2 in
              let path_is : r ≡ r' = up.0 ∙ sym merge.2.0 in
              let made : List ℕ → ℕ → NetAt = at_path in
              subst (λ v. Connected new x (at_path r m') v) (λ i. made (path_is i) (net_is i)) (Chain-same (at_path r m'))
        ]
    forward (s ∷ path) x a b t m n bit at kid over inner r m' r' n' up low =
        elim up [
          | inl step ↦ elim low [
            | inl step' ↦
                let same : at.0 ≡ step.0 = IsChild-same q.old x s at.1 step.3 in
                let same' : step'.0 ≡ step.0 = IsChild-same q.old x s step'.3 step.3 in
                let one : step'.1 ≡ step.1 = StepTo-same x s step'.1 step.1 step'.4 step.4 in
                let deep = forward path step.0 a b t m n bit (subst (λ v. Way q.old v path a) same at.2) kid over inner step.2 m' step'.2 n' step.5
                (subst (λ v. Carries q v (path ++ t ∷ []) n step'.2 n') same' step'.5) in
                let whole = Connected-under new x step.0 step.1 (at_path step.2 m') (at_path step'.2 n') (step_child x s step.1 step.0 step.4 step.3) deep in
                subst (λ v. Connected new x (at_path v m') (at_path r' n')) (sym step.6)
                (subst (λ v. Connected new x (at_path (step.1 ∷ step.2) m') (at_path v n')) (sym (step'.6 ∙ ap (λ v. v ∷ step'.2) one)) whole)
            | inr merge' ↦ absurd (StepTo-not_place x s step.1 step.4 merge'.0 merge'.1)
          ]
          | inr merge ↦ elim low [
            | inl step' ↦ absurd (StepTo-not_place x s step'.1 step'.4 merge.0 merge.1)
            | inr merge' ↦
                let kid_cell : IsChild q.old q.cell q.place at.0 =
                subst (λ v. IsChild q.old v q.place at.0) merge.0 (subst (λ v. IsChild q.old x v at.0) merge.1 at.1) in
                let same : at.0 ≡ q.child = IsChild-same q.old q.cell q.place kid_cell is.dissolved in
                subst (λ v. Connected new v (at_path r m') (at_path r' n')) (sym merge.0)
                (forward_inside path a b t m n bit (subst (λ v. Way q.old v path a) same at.2) kid over inner r m' r' n' merge.2 merge'.2)
          ]
        ]

    pub forward_inside : (path : List ℕ) (a b : CellId) (t m n : ℕ) (bit : Bit)
        → Way q.old q.child path a → IsChild q.old a t b → JoinsIn q.old a m (on t bit) → JoinsIn q.old b n (own bit)
        → (r : List ℕ) (m' : ℕ) (r' : List ℕ) (n' : ℕ) → CarriesInside q path m r m' → CarriesInside q (path ++ t ∷ []) n r' n'
        → Connected new q.cell (at_path r m') (at_path r' n')
    forward_inside [] a b t m n bit at kid over inner r m' r' n' up low =
        let kid_here : IsChild q.old q.child t b = subst (λ v. IsChild q.old v t b) at kid in
        let over_here : JoinsIn q.old q.child m (on t bit) = subst (λ v. JoinsIn q.old v m (on t bit)) at over in
        let same : b ≡ low.0 = IsChild-same q.old q.child t kid_here low.2 in
        let child_joins = own_carried low.0 n n' bit low.3.2 (subst (λ v. JoinsIn q.old v n (own bit)) same inner) in
        let parent_joins : JoinsIn new q.cell m' (on (q.place + t) bit) =
        subst (λ v. JoinsIn new q.cell v (on (q.place + t) bit)) (sym up.2) (is.on_placed m t bit over_here) in
        let meets = meets_at new q.cell q.cell low.0 [] (q.place + t) m' n' bit refl (is.placed t low.0 low.2) parent_joins child_joins in
        let path_is : r' ≡ (q.place + t) ∷ [] = low.4 ∙ ap (λ v. (q.place + t) ∷ v) low.3.0 in
        subst (λ v. Connected new q.cell (at_path v m') (at_path r' n')) (sym up.0)
        (subst (λ v. Connected new q.cell (at_path [] m') (at_path v n')) (sym path_is) (Chain-one {R = AreNeighbours new q.cell} (inl meets)))
    forward_inside (j ∷ path) a b t m n bit at kid over inner r m' r' n' up low =
        let same : at.0 ≡ up.0 = IsChild-same q.old q.child j at.1 up.2 in
        let same' : low.0 ≡ up.0 = IsChild-same q.old q.child j low.2 up.2 in
        let deep = forward path up.0 a b t m n bit (subst (λ v. Way q.old v path a) same at.2) kid over inner up.1 m' low.1 n' up.3
        (subst (λ v. Carries q v (path ++ t ∷ []) n low.1 n') same' low.3) in
        let whole = Connected-under new q.cell up.0 (q.place + j) (at_path up.1 m') (at_path low.1 n') (is.placed j up.0 up.2) deep in
        subst (λ v. Connected new q.cell (at_path v m') (at_path r' n')) (sym up.4)
        (subst (λ v. Connected new q.cell (at_path ((q.place + j) ∷ up.1) m') (at_path v n')) (sym low.4) whole)
