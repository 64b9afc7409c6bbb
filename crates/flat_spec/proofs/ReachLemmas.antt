-- A test by the places that a list of steps goes through finds every chain.
use Rattle.std.proofs.Common.{◌≡◌, ◌⊎◌, List, [], ◌∷◌, Bool, true, sym, subst, inl, inr}
use Rattle.std.proofs.lemmas.Bool.{and_parts, and_from, or_left, or_right, or_cases}
use Rattle.flat_spec.specs.Chains.{Leads, Chain}
use Rattle.flat_spec.specs.ConnectionTest.{leads_through}
use Rattle.flat_spec.proofs.ChainLemmas.{Chain-one, Chain-append}
use Rattle.flat_spec.proofs.ListLemmas.{Member}

module _ {A : Type 0} (R : A → A → Type 0) (step : A → A → Bool) where
  pub leads_through-chain : ((x y : A) → step x y ≡ true → R x y) → (zs : List A) (x y : A) → leads_through step zs x y ≡ true → Chain R x y
  leads_through-chain sound [] x y e = Chain-one {R = R} (sound x y e)
  leads_through-chain sound (z ∷ zs) x y e =
      elim (or_cases _ _ e) [
        | inl past ↦ leads_through-chain sound zs x y past
        | inr over ↦
            let parts = and_parts _ _ over in
            Chain-append R (leads_through-chain sound zs x z parts.0) (leads_through-chain sound zs z y parts.1)
      ]

  leads_through-step : (zs : List A) (x y : A) → step x y ≡ true → leads_through step zs x y ≡ true
  leads_through-step [] x y e = e
  leads_through-step (z ∷ zs) x y e = or_left _ _ (leads_through-step zs x y e)

  leads_through-parts : (z : A) (zs : List A) (x y : A) → leads_through step (z ∷ zs) x y ≡ true
      → (leads_through step zs x y ≡ true) ⊎ ((leads_through step zs x z ≡ true) × (leads_through step zs z y ≡ true))
  leads_through-parts z zs x y e = elim (or_cases _ _ e) [ inl past ↦ inl past | inr over ↦ inr (and_parts _ _ over) ]

  leads_through-over : (z : A) (zs : List A) (x y : A) → leads_through step zs x z ≡ true → leads_through step zs z y ≡ true
      → leads_through step (z ∷ zs) x y ≡ true
  leads_through-over z zs x y e f = or_right _ _ (and_from _ _ e f)

  -- one list after another, where the place between them is listed
  leads_through-append : (zs : List A) (x y v : A) → Member zs y → leads_through step zs x y ≡ true → leads_through step zs y v ≡ true
      → leads_through step zs x v ≡ true
  leads_through-append [] x y v m e f = absurd m
  leads_through-append (z ∷ zs) x y v m e f =
      elim m [
        | inl same ↦
            let here : leads_through step zs x z ≡ true = elim (leads_through-parts z zs x y e) [
              | inl past ↦ subst (λ w. leads_through step zs x w ≡ true) (sym same) past
              | inr over ↦ over.0
            ] in
            let there : leads_through step zs z v ≡ true = elim (leads_through-parts z zs y v f) [
              | inl past ↦ subst (λ w. leads_through step zs w v ≡ true) (sym same) past
              | inr over ↦ over.1
            ] in
            leads_through-over z zs x v here there
        | inr rest ↦
            elim (leads_through-parts z zs x y e) [
              | inl past ↦ elim (leads_through-parts z zs y v f) [
                | inl past' ↦ or_left _ _ (leads_through-append zs x y v rest past past')
                | inr over' ↦ leads_through-over z zs x v (leads_through-append zs x y z rest past over'.0) over'.1
              ]
              | inr over ↦ elim (leads_through-parts z zs y v f) [
                | inl past' ↦ leads_through-over z zs x v over.0 (leads_through-append zs z y v rest over.1 past')
                | inr over' ↦ leads_through-over z zs x v over.0 over'.1
              ]
            ]
      ]

  pub chain-leads_through : ((x y : A) → R x y → step x y ≡ true) → (zs : List A) → ((x y : A) → R x y → Member zs y)
      → (x y : A) (via : List A) → Leads R x via y → (x ≡ y) ⊎ (leads_through step zs x y ≡ true)
  chain-leads_through complete zs listed x y [] e = inl e
  chain-leads_through complete zs listed x y (v ∷ via) e =
      let first = leads_through-step zs x v (complete x v e.0) in
      elim (chain-leads_through complete zs listed v y via e.1) [
        | inl same ↦ inr (subst (λ w. leads_through step zs x w ≡ true) same first)
        | inr rest ↦ inr (leads_through-append zs x v y (listed x v e.0) first rest)
      ]
