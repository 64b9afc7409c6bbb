-- All nets that are connected with a first one are at or below its occurrence.
use Rattle.std.proofs.Common.{◌≡◌, ℕ, List, [], ◌∷◌, ◌++◌, refl, sym, ap, subst, ◌∙◌, inl, inr, append_assoc, append-nil}
use Rattle.std.proofs.lemmas.List.{same_from_push}
use Rattle.flat_spec.specs.Paths.{at_path, at_root}
use Rattle.flat_spec.specs.Connection.{AreNeighbours, Connected}
use Rattle.ungroup_spec.proofs.Ways.{Way, Way-rest, meeting, meets_at}
use Rattle.netlist_schema.specs.Types.{CellId}
use Rattle.netlist_schema.specs.Design.{Design}
use Rattle.flat_spec.specs.Types.{NetAt}
use Rattle.flat_spec.specs.Chains.{Leads}
use Rattle.flat_spec.specs.PathOrder.{PathBefore, NetBefore}
use Rattle.flat_spec.proofs.ChainLemmas.{Chain-same, Chain-one, Chain-append}
use Rattle.flat_spec.proofs.ListLemmas.{last_cases}

PathBefore-step : (p : List ℕ) (s : ℕ) → PathBefore p (p ++ s ∷ [])
PathBefore-step [] s = tt
PathBefore-step (i ∷ p) s = inr (refl, PathBefore-step p s)

module _ (d : Design) (root : CellId) (path : List ℕ) (n : ℕ) (c : CellId) (at : Way d root path c)
    (least : (y : NetAt) → Connected d root (at_path path n) y → NetBefore y (at_path path n) → ⊥) where
  abbrev pub IsUnder : NetAt → Type 0
  IsUnder y = (rest : List ℕ) × (y.path ≡ path ++ rest) × Connected d c (at_root n) (at_path rest y.net)

  under_step : (x y : NetAt) → Connected d root (at_path path n) x → AreNeighbours d root x y → IsUnder x → IsUnder y
  under_step x y k t h =
      elim t [
        | inl meets ↦
            let m = meeting d root x y meets in
            let reached : Way d root (path ++ h.0) m.parent = subst (λ p. Way d root p m.parent) h.1 m.parent_at in
            let inner = Way-rest d root path c h.0 m.parent at reached in
            let meets = meets_at d c m.parent m.child h.0 m.step x.net y.net m.joint inner m.is_child m.joins_on m.joins_own in (
              h.0 ++ m.step ∷ [],
              m.below ∙ ap (λ p. p ++ m.step ∷ []) h.1 ∙ append_assoc path h.0 (m.step ∷ []),
              Chain-append (AreNeighbours d c) h.2 (Chain-one {R = AreNeighbours d c} (inl meets)),
            )
        | inr meets ↦ let m = meeting d root y x meets in elim (last_cases h.0) [
          | inl empty ↦
              let whole : y.path ++ m.step ∷ [] ≡ path = sym m.below ∙ h.1 ∙ ap (λ s. path ++ s) empty ∙ append-nil path in
              let before : PathBefore y.path path = subst (λ p. PathBefore y.path p) whole (PathBefore-step y.path m.step) in
              absurd (least y (Chain-append (AreNeighbours d root) k (Chain-one {R = AreNeighbours d root} (inr meets))) (inl before))
          | inr e ↦
              let whole : y.path ++ m.step ∷ [] ≡ (path ++ e.0) ++ e.1 ∷ [] =
              sym m.below ∙ h.1 ∙ ap (λ s. path ++ s) e.2 ∙ sym (append_assoc path e.0 (e.1 ∷ [])) in
              let parts = same_from_push y.path (path ++ e.0) m.step e.1 whole in
              let reached : Way d root (path ++ e.0) m.parent = subst (λ p. Way d root p m.parent) parts.0 m.parent_at in
              let inner = Way-rest d root path c e.0 m.parent at reached in
              let meets = meets_at d c m.parent m.child e.0 m.step y.net x.net m.joint inner m.is_child m.joins_on m.joins_own in
              let rest_is : e.0 ++ m.step ∷ [] ≡ h.0 = ap (λ s. e.0 ++ s ∷ []) parts.1 ∙ sym e.2 in
              let before : Connected d c (at_root n) (at_path (e.0 ++ m.step ∷ []) x.net) =
              subst (λ s. Connected d c (at_root n) (at_path s x.net)) (sym rest_is) h.2 in
              (e.0, parts.0, Chain-append (AreNeighbours d c) before (Chain-one {R = AreNeighbours d c} (inr meets)))
        ]
      ]

  under_leads : (x y : NetAt) (via : List NetAt) → Connected d root (at_path path n) x → Leads (AreNeighbours d root) x via y → IsUnder x → IsUnder y
  under_leads x y [] k e h = subst IsUnder e h
  under_leads x y (z ∷ via) k e h =
      under_leads z y via (Chain-append (AreNeighbours d root) k (Chain-one {R = AreNeighbours d root} e.0)) e.1 (under_step x z k e.0 h)

  -- what is connected with the first is under it, and connected in the tree of its cell
  pub Connected-under_first : (y : NetAt) → Connected d root (at_path path n) y → IsUnder y
  Connected-under_first y k =
      under_leads (at_path path n) y k.0 (Chain-same (at_path path n)) k.1 ([], sym (append-nil path), Chain-same (at_root n))
