-- A search among first nets in order.
use Rattle.std.proofs.Common.{◌≡◌, ℕ, zero, suc, ◌<◌, List, [], ◌∷◌, length, get_or, refl, sym, ap, subst, ◌∙◌, inl, inr, arith}
use Rattle.std.specs.List.{AllPairs}
use Rattle.std.specs.Cmp.Lexicographic.{slice_cmp}
use Rattle.std.specs.Ordering.{nat_cmp, ordering_then}
use Rattle.std.specs.declared.cmp.Ordering.TheVariants.{Less, Equal, Greater}
use Rattle.std.proofs.lemmas.Bool.{cases_order, eq-eqb, le-ltb, lt-ltb, ne_eqb}
use Rattle.flat_spec.specs.PathOrder.{NetBefore, PathBefore}
use Rattle.flat_spec.specs.Types.{NetAt}
use Rattle.flat_spec.proofs.RepresentativeLemmas.{PathBefore-total}
use Rattle.erc_check.specs.Firsts.{IsPlaceOf, net_order}
use Rattle.erc_check.specs.declared.firsts.FirstNet.{FirstNet}

cmp_below : (a b : ℕ) → a < b → nat_cmp a b ≡ Less
cmp_below a b h = rw (lt-ltb a b h) refl

cmp_above : (a b : ℕ) → b < a → nat_cmp a b ≡ Greater
cmp_above a b h = rw (le-ltb a b (omega arith), ne_eqb a b (omega arith)) refl

cmp_same : (a b : ℕ) → a ≡ b → nat_cmp a b ≡ Equal
cmp_same a b e = rw (le-ltb a b (omega arith), eq-eqb a b e) refl

path_below : (p q : List ℕ) → PathBefore p q → slice_cmp nat_cmp p q ≡ Less
path_below [] [] h = absurd h
path_below [] (j ∷ q) h = refl
path_below (i ∷ p) [] h = absurd h
path_below (i ∷ p) (j ∷ q) h =
    elim h [
      | inl less ↦ ap (λ r. ordering_then r (slice_cmp nat_cmp p q)) (cmp_below i j less)
      | inr same ↦ ap (λ r. ordering_then r (slice_cmp nat_cmp p q)) (cmp_same i j same.0) ∙ path_below p q same.1
    ]

path_above : (p q : List ℕ) → PathBefore q p → slice_cmp nat_cmp p q ≡ Greater
path_above [] [] h = absurd h
path_above [] (j ∷ q) h = absurd h
path_above (i ∷ p) [] h = refl
path_above (i ∷ p) (j ∷ q) h =
    elim h [
      | inl less ↦ ap (λ r. ordering_then r (slice_cmp nat_cmp p q)) (cmp_above i j less)
      | inr same ↦ ap (λ r. ordering_then r (slice_cmp nat_cmp p q)) (cmp_same i j (sym same.0)) ∙ path_above p q same.1
    ]

path_same : (p : List ℕ) → slice_cmp nat_cmp p p ≡ Equal
path_same [] = refl
path_same (i ∷ p) = ap (λ r. ordering_then r (slice_cmp nat_cmp p p)) (cmp_same i i refl) ∙ path_same p

order_below : (x y : NetAt) → NetBefore x y → net_order x y ≡ Less
order_below x y h =
    elim h [
      | inl path ↦ ap (λ r. ordering_then r (nat_cmp x.net y.net)) (path_below x.path y.path path)
      | inr net ↦ ap (λ p. ordering_then (slice_cmp nat_cmp x.path p) (nat_cmp x.net y.net)) (sym net.0) ∙ (ap (λ r. ordering_then r (nat_cmp x.net y.net)) (path_same x.path) ∙ cmp_below x.net y.net net.1)
    ]

order_above : (x y : NetAt) → NetBefore y x → net_order x y ≡ Greater
order_above x y h =
    elim h [
      | inl path ↦ ap (λ r. ordering_then r (nat_cmp x.net y.net)) (path_above x.path y.path path)
      | inr net ↦ ap (λ p. ordering_then (slice_cmp nat_cmp x.path p) (nat_cmp x.net y.net)) net.0 ∙ (ap (λ r. ordering_then r (nat_cmp x.net y.net)) (path_same x.path) ∙ cmp_above x.net y.net net.1)
    ]

order_same : (x : NetAt) → net_order x x ≡ Equal
order_same x = ap (λ r. ordering_then r (nat_cmp x.net x.net)) (path_same x.path) ∙ cmp_same x.net x.net refl

-- nets that compare as equal are one
pub order_equal : (x y : NetAt) → net_order x y ≡ Equal → x ≡ y
order_equal x y is =
    elim (PathBefore-total x.path y.path) [
      | inl before ↦ let less = order_below x y (inl before) in absurd (cc)
      | inr (inl same) ↦ elim (cases_order x.net y.net) [
        | inl equal ↦ λ i. record { path = same i; net = equal i }
        | inr (inl below) ↦ let less = order_below x y (inr (same, below)) in absurd (cc)
        | inr (inr above) ↦ let greater = order_above x y (inr (sym same, above)) in absurd (cc)
      ]
      | inr (inr after) ↦ let greater = order_above x y (inl after) in absurd (cc)
    ]

pub get_or-any : {A : Type 0} (xs : List A) (i : ℕ) (a b : A) → i < length xs → get_or xs i a ≡ get_or xs i b
get_or-any [] i a b h = absurd (omega arith)
get_or-any (x ∷ xs) zero a b h = refl
get_or-any (x ∷ xs) (suc i) a b h = get_or-any xs i a b (omega arith)

module _ (firsts : List FirstNet) (y : NetAt) (in_order : AllPairs (λ f g. NetBefore f.at g.at) firsts) (m : ℕ) (d : FirstNet) (within : m < length firsts) where
  -- where the net in the middle comes before the net, the net stands behind the middle
  pub stands_behind : net_order (get_or firsts m d).at y ≡ Less → (k : ℕ) → IsPlaceOf firsts y k → m < k
  stands_behind is k at =
      elim (cases_order m k) [
        | inl same ↦ let equal = ap (λ x. net_order x y) (ap (λ j. (get_or firsts j d).at) same ∙ at.1 d) ∙ order_same y in absurd (cc)
        | inr (inl less) ↦ less
        | inr (inr more) ↦
            let before : NetBefore y (get_or firsts m d).at = subst (λ x. NetBefore x (get_or firsts m d).at) (at.1 d) (in_order k m d more within) in
            let greater = order_above (get_or firsts m d).at y before in
            absurd (cc)
      ]

  pub stands_before : net_order (get_or firsts m d).at y ≡ Greater → (k : ℕ) → IsPlaceOf firsts y k → k < m
  stands_before is k at =
      elim (cases_order k m) [
        | inl same ↦ let equal = ap (λ x. net_order x y) (ap (λ j. (get_or firsts j d).at) (sym same) ∙ at.1 d) ∙ order_same y in absurd (cc)
        | inr (inl less) ↦ less
        | inr (inr more) ↦
            let before : NetBefore (get_or firsts m d).at y = subst (λ x. NetBefore (get_or firsts m d).at x) (at.1 d) (in_order m k d more at.0) in
            let less = order_below (get_or firsts m d).at y before in
            absurd (cc)
      ]
