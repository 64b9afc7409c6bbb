-- The test tells connection, and the first net that passes it is the representative.
use Rattle.std.proofs.Common.{◌≡◌, ◌⊎◌, ℕ, List, [], ◌∷◌, Bool, true, false, refl, sym, ap, subst, inl, inr, arith, Some}
use Rattle.std.specs.Prelude.{find, unwrap_or}
use Rattle.std.proofs.lemmas.Bool.{or_left, or_right, or_cases, cases_order}
use Rattle.netlist_schema.specs.Design.{Design}
use Rattle.netlist_schema.specs.Hierarchy.{NoCellIsBelowItself}
use Rattle.netlist_schema.specs.Types.{CellId}
use Rattle.flat_spec.specs.Chains.{Leads}
use Rattle.flat_spec.specs.Connection.{AreNeighbours, Connected}
use Rattle.flat_spec.specs.ConnectionTest.{same_net, are_neighbours, connects}
use Rattle.flat_spec.specs.Occurrences.{nets}
use Rattle.flat_spec.specs.PathOrder.{PathBefore, NetBefore}
use Rattle.flat_spec.specs.Paths.{own, on, IsNet}
use Rattle.flat_spec.specs.Representatives.{IsRepresentative, representative}
use Rattle.flat_spec.specs.declared.item.NetAt.{NetAt}
use Rattle.flat_spec.proofs.ConnectionLemmas.{Connected-same, Connected-sym, Connected-append}
use Rattle.flat_spec.proofs.ListLemmas.{Member, Ascends}
use Rattle.flat_spec.proofs.OccurrenceLemmas.{nets-member, nets-ascends}
use Rattle.flat_spec.proofs.PathLemmas.{Joins-net}
use Rattle.flat_spec.proofs.ReachLemmas.{leads_through-chain, chain-leads_through}
use Rattle.flat_spec.proofs.TestLemmas.{same_net-true, same_net-refl, are_neighbours-true, are_neighbours-from}

-- a neighbour is a net
pub AreNeighbours-net : (d : Design) (root : CellId) (x y : NetAt) → AreNeighbours d root x y → IsNet d root y
AreNeighbours-net d root x y t =
    elim t [ inl m ↦ Joins-net d root y (own m.joint) m.joins_own | inr m ↦ Joins-net d root y (on m.step m.joint) m.joins_on ]

-- what is connected with a net is one
Leads-net : (d : Design) (root : CellId) (x y : NetAt) (via : List NetAt) → Leads (AreNeighbours d root) x via y → IsNet d root x → IsNet d root y
Leads-net d root x y [] e h = subst (λ v. IsNet d root v) e h
Leads-net d root x y (z ∷ via) e h = Leads-net d root z y via e.1 (AreNeighbours-net d root x z e.0)

pub Connected-net : (d : Design) (root : CellId) (x y : NetAt) → Connected d root x y → IsNet d root x → IsNet d root y
Connected-net d root x y k h = Leads-net d root x y k.0 k.1 h

pub connects-true : (d : Design) (root : CellId) (x y : NetAt) → connects d root x y ≡ true → Connected d root x y
connects-true d root x y e =
    elim (or_cases _ _ e) [
      | inl same ↦ subst (λ v. Connected d root x v) (same_net-true x y same) (Connected-same d root x)
      | inr through ↦ leads_through-chain (AreNeighbours d root) (are_neighbours d root) (are_neighbours-true d root) (nets d root) x y through
    ]

pub connects-from : (d : Design) → NoCellIsBelowItself d → (root : CellId) (x y : NetAt) → Connected d root x y → connects d root x y ≡ true
connects-from d acyclic root x y k =
    elim (chain-leads_through (AreNeighbours d root) (are_neighbours d root) (are_neighbours-from d root) (nets d root)
    (λ a b t. nets-member d acyclic root b (AreNeighbours-net d root a b t)) x y k.0 k.1) [
      | inl same ↦ subst (λ v. connects d root x v ≡ true) same (or_left _ _ (same_net-refl x))
      | inr through ↦ or_right (same_net x y) _ through
    ]

pub PathBefore-not_both : (p q : List ℕ) → PathBefore p q → PathBefore q p → ⊥
PathBefore-not_both [] [] h k = h
PathBefore-not_both [] (j ∷ q) h k = k
PathBefore-not_both (i ∷ p) [] h k = h
PathBefore-not_both (i ∷ p) (j ∷ q) h k =
    elim h [
      | inl less ↦ elim k [ inl more ↦ omega (arith, less, more) | inr same ↦ omega (arith, less, same.0) ]
      | inr same ↦ elim k [ inl more ↦ omega (arith, same.0, more) | inr same' ↦ PathBefore-not_both p q same.1 same'.1 ]
    ]

NetBefore-not_both : (x y : NetAt) → NetBefore x y → NetBefore y x → ⊥
NetBefore-not_both x y h k =
    elim h [
      | inl less ↦ elim k [
        | inl more ↦ PathBefore-not_both x.path y.path less more
        | inr same ↦
            let twice : PathBefore x.path x.path = subst (λ p. PathBefore x.path p) same.0 less in
            PathBefore-not_both x.path x.path twice twice
      ]
      | inr same ↦ elim k [
        | inl more ↦
            let twice : PathBefore y.path y.path = subst (λ p. PathBefore y.path p) same.0 more in
            PathBefore-not_both y.path y.path twice twice
        | inr same' ↦ omega (arith, same.1, same'.1)
      ]
    ]

pub PathBefore-total : (p q : List ℕ) → PathBefore p q ⊎ ((p ≡ q) ⊎ PathBefore q p)
PathBefore-total [] [] = inr (inl refl)
PathBefore-total [] (j ∷ q) = inl tt
PathBefore-total (i ∷ p) [] = inr (inr tt)
PathBefore-total (i ∷ p) (j ∷ q) =
    elim (cases_order i j) [
      | inl same ↦ elim (PathBefore-total p q) [
        | inl before ↦ inl (inr (same, before))
        | inr onward ↦ elim onward [ inl equal ↦ inr (inl (cc (same, equal))) | inr after ↦ inr (inr (inr (sym same, after))) ]
      ]
      | inr rest ↦ elim rest [ inl less ↦ inl (inl less) | inr more ↦ inr (inr (inl more)) ]
    ]

NetBefore-total : (x y : NetAt) → NetBefore x y ⊎ ((x ≡ y) ⊎ NetBefore y x)
NetBefore-total x y =
    elim (PathBefore-total x.path y.path) [
      | inl before ↦ inl (inl before)
      | inr rest ↦ elim rest [
        | inl same ↦ elim (cases_order x.net y.net) [
          | inl equal ↦ inr (inl (λ i. record { path = same i; net = equal i }))
          | inr more ↦ elim more [ inl less ↦ inl (inr (same, less)) | inr greater ↦ inr (inr (inr (sym same, greater))) ]
        ]
        | inr after ↦ inr (inr (inl after))
      ]
    ]

-- in a list in order, what is found comes first among all that pass
pub found-first : {A : Type 0} (R : A → A → Type 0) (test : A → Bool) → ((x y : A) → R x y → R y x → ⊥)
    → (xs : List A) → Ascends R xs → (y : A) → Member xs y → test y ≡ true
    → (x : A) × (find test xs ≡ Some x) × (test x ≡ true) × ((z : A) → Member xs z → test z ≡ true → R z x → ⊥)
found-first R test not_both [] p y m e = absurd m
found-first {A} R test not_both (v ∷ xs) p y m e =
    go (λ rest. found-first R test not_both xs p.1 y rest e) (test v) refl
  where
    go : (Member xs y → (x : A) × (find test xs ≡ Some x) × (test x ≡ true) × ((z : A) → Member xs z → test z ≡ true → R z x → ⊥))
        → (b : Bool) → test v ≡ b
        → (x : A) × (find test (v ∷ xs) ≡ Some x) × (test x ≡ true) × ((z : A) → Member (v ∷ xs) z → test z ≡ true → R z x → ⊥)
    go further true is = (
      v,
      rw is refl,
      is,
      λ z k passes before. elim k [
        | inl same ↦
            let twice : R v v = subst (λ w. R w v) (sym same) before in
            not_both v v twice twice
        | inr rest ↦ not_both v z (p.0 z rest) before
      ],
    )
    go further false is =
        let rest : Member xs y = elim m [ inl same ↦ absurd (cc (ap test same)) | inr there ↦ there ] in
        let found = further rest in (
          found.0,
          rw is found.1,
          found.2,
          λ z k passes before. elim k [
            | inl same ↦ absurd (cc (ap test same))
            | inr there ↦ found.3 z there passes before
          ],
        )

-- the representative is the first net that is connected
pub representative-first : (d : Design) → NoCellIsBelowItself d → (root : CellId) (x : NetAt) → IsNet d root x → IsRepresentative d root x (representative d root x)
unfolding representative
representative-first d acyclic root x h =
    let itself : connects d root x x ≡ true = or_left _ _ (same_net-refl x) in
    let found =
    found-first NetBefore (connects d root x) NetBefore-not_both (nets d root) (nets-ascends d root) x (nets-member d acyclic root x h) itself in
    let is : unwrap_or (find (connects d root x) (nets d root)) x ≡ found.0 = ap (λ o. unwrap_or o x) found.1 in
    subst (λ v. IsRepresentative d root x v) (sym is)
    (record {
      connected = connects-true d root x found.0 found.2;
      least = λ y k before.
          found.3 y (nets-member d acyclic root y (Connected-net d root x y k h)) (connects-from d acyclic root x y k) before;
    })

-- a net has one representative
pub IsRepresentative-same : (d : Design) (root : CellId) (x a b : NetAt) → IsRepresentative d root x a → IsRepresentative d root x b → a ≡ b
IsRepresentative-same d root x a b p q =
    elim (NetBefore-total a b) [
      | inl before ↦ absurd (q.least a p.connected before)
      | inr rest ↦ elim rest [ inl same ↦ same | inr after ↦ absurd (p.least b q.connected after) ]
    ]

-- connected nets have one representative
pub IsRepresentative-connected : (d : Design) (root : CellId) (x y first : NetAt) → Connected d root x y → IsRepresentative d root y first → IsRepresentative d root x first
IsRepresentative-connected d root x y first k r = record {
  connected = Connected-append d root x y first k r.connected;
  least = λ z c before. r.least z (Connected-append d root y x z (Connected-sym d root x y k) c) before;
}

-- the representative is what the definition by order says
pub representative-is : (d : Design) → NoCellIsBelowItself d → (root : CellId) (x y : NetAt) → IsNet d root x → IsRepresentative d root x y
    → representative d root x ≡ y
representative-is d acyclic root x y h is =
    IsRepresentative-same d root x (representative d root x) y (representative-first d acyclic root x h) is

pub representative-connected : (d : Design) → NoCellIsBelowItself d → (root : CellId) (x y : NetAt) → IsNet d root y → Connected d root x y
    → representative d root x ≡ representative d root y
representative-connected d acyclic root x y h k =
    let x_is = Connected-net d root y x (Connected-sym d root x y k) h in
    representative-is d acyclic root x (representative d root y) x_is
    (IsRepresentative-connected d root x y (representative d root y) k (representative-first d acyclic root y h))

pub representative-same : (d : Design) → NoCellIsBelowItself d → (root : CellId) (x y : NetAt) → IsNet d root x → IsNet d root y
    → representative d root x ≡ representative d root y → Connected d root x y
representative-same d acyclic root x y h k same =
    let first = (representative-first d acyclic root x h).connected in
    let second = (representative-first d acyclic root y k).connected in
    Connected-append d root x (representative d root x) y first
    (Connected-sym d root y (representative d root x) (subst (λ v. Connected d root y v) (sym same) second))
