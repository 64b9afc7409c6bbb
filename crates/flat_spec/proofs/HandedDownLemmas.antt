-- The representative of a net below the root: that of a net of the parent, or a net of the same contents.
use Rattle.std.proofs.Common.{◌≡◌, ℕ, List, [], ◌∷◌, ◌++◌, refl, sym, ap, subst, inl, inr, ◌∙◌, arith, append_assoc, append-nil}
use Rattle.std.proofs.lemmas.List.{same_from_push}
use Rattle.netlist_schema.specs.Design.{Design}
use Rattle.netlist_schema.specs.Hierarchy.{NoCellIsBelowItself}
use Rattle.netlist_schema.specs.Types.{CellId}
use Rattle.flat_spec.specs.Chains.{Leads}
use Rattle.flat_spec.specs.Connection.{Meets, AreNeighbours, Connected}
use Rattle.flat_spec.specs.HandedDown.{Inner, IsInner, inner_net, outer_net, IsHandedDown, IsUntouched, IsFirstInside}
use Rattle.flat_spec.specs.PathOrder.{PathBefore}
use Rattle.flat_spec.specs.Paths.{own, on, at_path, at_root, Joins, IsNet}
use Rattle.flat_spec.specs.Representatives.{IsRepresentative, representative}
use Rattle.flat_spec.specs.declared.item.NetAt.{NetAt}
use Rattle.flat_spec.proofs.ConnectionLemmas.{Connected-same, Connected-sym, Connected-append, Connected-one, Connected-below, Meets-inward, Meets-here}
use Rattle.flat_spec.proofs.ListLemmas.{last_cases, append-same}
use Rattle.flat_spec.proofs.PathLemmas.{Joins-inward, Joins-net, net_of-below}
use Rattle.flat_spec.proofs.RepresentativeLemmas.{IsRepresentative-connected, representative-first, representative-is, representative-connected}

-- no occurrence comes before one that it is below
PathBefore-below : (p s : List ℕ) → PathBefore (p ++ s) p → ⊥
PathBefore-below [] [] h = h
PathBefore-below [] (i ∷ s) h = h
PathBefore-below (i ∷ p) s h = elim h [ inl less ↦ omega (arith, less) | inr same ↦ PathBefore-below p s same.1 ]

-- the path of the inner occurrence
abbrev inner_path : Inner → List ℕ
inner_path o = o.parent ++ o.step ∷ []

-- the net is at or below the inner occurrence, and connected with its net n in the tree of its cell
abbrev Inside : Design → Inner → ℕ → NetAt → Type 0
Inside d o n x = (rest : List ℕ) × (x.path ≡ inner_path o ++ rest) × Connected d o.cell (at_root n) (at_path rest x.net)

module _ (d : Design) (root : CellId) (o : Inner) (is : IsInner d root o) where
  -- what is connected inside is connected
  pub Connected-inside : (m n : ℕ) → Connected d o.cell (at_root m) (at_root n) → Connected d root (inner_net o m) (inner_net o n)
  Connected-inside m n k =
      subst (λ p. Connected d root (at_path p m) (at_path p n)) (append-nil (inner_path o))
      (Connected-below d root o.cell (inner_path o) (at_root m) (at_root n) is k)

  -- a net of the parent that is handed down is connected
  pub handed-connected : (m n : ℕ) → IsHandedDown d root o m n → Connected d root (inner_net o n) (outer_net o m)
  handed-connected m n h =
      let inner = h.inside in
      let meets = Meets-here d root o.cell o.parent o.step m inner.0 h.joint is h.outside inner.1 in
      Connected-append d root (inner_net o n) (inner_net o inner.0) (outer_net o m)
      (Connected-inside n inner.0 (Connected-sym d o.cell (at_root inner.0) (at_root n) inner.2))
      (Connected-one d root (inner_net o inner.0) (outer_net o m) (inr meets))

  deeper : (n : ℕ) (x y : NetAt) → Inside d o n x → Meets d root x y → Inside d o n y
  deeper n x y h m =
      let over : Joins d root (at_path (inner_path o ++ h.0) x.net) (on m.step m.joint) =
      subst (λ p. Joins d root (at_path p x.net) (on m.step m.joint)) h.1 m.joins_on in
      let below : y.path ≡ inner_path o ++ (h.0 ++ m.step ∷ []) =
      m.below ∙ ap (λ p. p ++ m.step ∷ []) h.1 ∙ append_assoc (inner_path o) h.0 (m.step ∷ []) in
      let inner = subst (λ p. Joins d root (at_path p y.net) (own m.joint)) below m.joins_own in
      let meets = Meets-inward d root o.cell (inner_path o) h.0 m.step x.net y.net m.joint is over inner in
      (h.0 ++ m.step ∷ [], below, Connected-append d o.cell _ _ _ h.2 (Connected-one d o.cell _ _ (inl meets)))

  higher : (n : ℕ) (x y : NetAt) → IsUntouched d root o n → Inside d o n x → Meets d root y x → Inside d o n y
  higher n x y none h m =
      elim (last_cases h.0) [
        | inl empty ↦
            let whole : y.path ++ m.step ∷ [] ≡ o.parent ++ o.step ∷ [] =
            sym m.below ∙ h.1 ∙ ap (λ s. inner_path o ++ s) empty ∙ append-nil (inner_path o) in
            let parts = same_from_push y.path o.parent m.step o.step whole in
            let over : Joins d root (outer_net o y.net) (on o.step m.joint) =
            subst (λ s. Joins d root (outer_net o y.net) (on s m.joint)) parts.1
            (subst (λ p. Joins d root (at_path p y.net) (on m.step m.joint)) parts.0 m.joins_on) in
            let path_is : x.path ≡ inner_path o ++ [] = h.1 ∙ ap (λ s. inner_path o ++ s) empty in
            let inner : Joins d o.cell (at_root x.net) (own m.joint) =
            Joins-inward d root o.cell (inner_path o) [] x.net (own m.joint) is
            (subst (λ p. Joins d root (at_path p x.net) (own m.joint)) path_is m.joins_own) in
            let here : Connected d o.cell (at_root n) (at_root x.net) = subst (λ s. Connected d o.cell (at_root n) (at_path s x.net)) empty h.2 in
            absurd (none y.net (record {
              joint = m.joint;
              inside = (x.net, inner, Connected-sym d o.cell (at_root n) (at_root x.net) here);
              outside = over;
            }))
        | inr e ↦
            let whole : y.path ++ m.step ∷ [] ≡ (inner_path o ++ e.0) ++ e.1 ∷ [] =
            sym m.below ∙ h.1 ∙ ap (λ s. inner_path o ++ s) e.2 ∙ sym (append_assoc (inner_path o) e.0 (e.1 ∷ [])) in
            let parts = same_from_push y.path (inner_path o ++ e.0) m.step e.1 whole in
            let over = subst (λ p. Joins d root (at_path p y.net) (on m.step m.joint)) parts.0 m.joins_on in
            let rest_is : e.0 ++ m.step ∷ [] ≡ h.0 = ap (λ s. e.0 ++ s ∷ []) parts.1 ∙ sym e.2 in
            let path_is : x.path ≡ inner_path o ++ (e.0 ++ m.step ∷ []) = h.1 ∙ ap (λ s. inner_path o ++ s) (sym rest_is) in
            let inner = subst (λ p. Joins d root (at_path p x.net) (own m.joint)) path_is m.joins_own in
            let meets = Meets-inward d root o.cell (inner_path o) e.0 m.step y.net x.net m.joint is over inner in
            let before : Connected d o.cell (at_root n) (at_path (e.0 ++ m.step ∷ []) x.net) =
            subst (λ s. Connected d o.cell (at_root n) (at_path s x.net)) (sym rest_is) h.2 in
            (e.0, parts.0, Connected-append d o.cell _ _ _ before (Connected-one d o.cell _ _ (inr meets)))
      ]

  stays : (n : ℕ) → IsUntouched d root o n → (x y : NetAt) (via : List NetAt) → Leads (AreNeighbours d root) x via y
      → Inside d o n x → Inside d o n y
  stays n none x y [] e h = subst (λ v. Inside d o n v) e h
  stays n none x y (z ∷ zs) e h =
      stays n none z y zs e.1 (elim e.0 [ inl m ↦ deeper n x z h m | inr m ↦ higher n x z none h m ])

  -- what is connected with an untouched net is inside
  pub Connected-untouched : (n : ℕ) (y : NetAt) → IsUntouched d root o n → Connected d root (inner_net o n) y → Inside d o n y
  Connected-untouched n y none k =
      stays n none (inner_net o n) y k.0 k.1 ([], sym (append-nil (inner_path o)), Connected-same d o.cell (at_root n))

  -- a net that is handed down gives its representative
  pub handed-representative : (m n : ℕ) (first : NetAt) → IsHandedDown d root o m n
      → IsRepresentative d root (outer_net o m) first → IsRepresentative d root (inner_net o n) first
  handed-representative m n first h r =
      IsRepresentative-connected d root (inner_net o n) (outer_net o m) first (handed-connected m n h) r

  -- an untouched net has a representative of the same contents
  pub untouched-representative : (n first : ℕ) → IsUntouched d root o n → IsFirstInside d o.cell n first
      → IsRepresentative d root (inner_net o n) (inner_net o first)
  untouched-representative n first none local = record {
    connected = Connected-inside n first local.connected;
    least = λ y k before.
        let inside = Connected-untouched n y none k in
        elim before [
          | inl earlier ↦ PathBefore-below (inner_path o) inside.0 (subst (λ p. PathBefore p (inner_path o)) inside.1 earlier)
          | inr within ↦
              let empty : inside.0 ≡ [] = append-same (inner_path o) inside.0 (sym inside.1 ∙ within.0) in
              let here : Connected d o.cell (at_root n) (at_root y.net) = subst (λ s. Connected d o.cell (at_root n) (at_path s y.net)) empty inside.2 in
              local.least y.net here within.1
        ];
  }

  pub representative-handed : (m n : ℕ) → NoCellIsBelowItself d → IsHandedDown d root o m n
      → representative d root (inner_net o n) ≡ representative d root (outer_net o m)
  representative-handed m n acyclic h =
      let is_net = Joins-net d root (outer_net o m) (on o.step h.joint) h.outside in
      representative-connected d acyclic root (inner_net o n) (outer_net o m) is_net (handed-connected m n h)

  pub representative-untouched : (n first : ℕ) → NoCellIsBelowItself d → IsNet d o.cell (at_root n) → IsUntouched d root o n
      → IsFirstInside d o.cell n first → representative d root (inner_net o n) ≡ inner_net o first
  representative-untouched n first acyclic is_net none local =
      let outer_is : IsNet d root (at_path (inner_path o ++ []) n) = rw (net_of-below d root o.cell (inner_path o) [] n is) is_net in
      let inner_is : IsNet d root (inner_net o n) = subst (λ p. IsNet d root (at_path p n)) (append-nil (inner_path o)) outer_is in
      representative-is d acyclic root (inner_net o n) (inner_net o first) inner_is (untouched-representative n first none local)

-- in the cell's own tree the representative of a net of the contents is one of them, the first that is connected
pub first_inside : (d : Design) (c : CellId) (n : ℕ) → NoCellIsBelowItself d → IsNet d c (at_root n)
    → (first : ℕ) × IsFirstInside d c n first × (representative d c (at_root n) ≡ at_root first)
first_inside d c n acyclic is =
    at_top (representative d c (at_root n)).path (representative d c (at_root n)).net refl (representative-first d acyclic c (at_root n) is)
  where
    at_top : (path : List ℕ) (first : ℕ) → representative d c (at_root n) ≡ at_path path first → IsRepresentative d c (at_root n) (at_path path first)
        → (k : ℕ) × IsFirstInside d c n k × (representative d c (at_root n) ≡ at_root k)
    at_top [] first same rep =
        (first, record { connected = rep.connected; least = λ k connected less. rep.least (at_root k) connected (inr (refl, less)) }, same)
    at_top (i ∷ path) first same rep = absurd (rep.least (at_root n) (Connected-same d c (at_root n)) (inl tt))
