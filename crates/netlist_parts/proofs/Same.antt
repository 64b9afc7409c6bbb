-- Two lists that are compared item by item.
use Rattle.std.proofs.Common.{◌≡◌, Bool, true, false, ◌&&◌, List, [], ◌∷◌, ap, ◌∙◌}
use Rattle.std.specs.Cmp.Lexicographic.{pointwise}

module _ {A : Type 0} (E : A → A → Bool) where
  pub same_next : (xs ys rest others : List A) (x y : A) → xs ≡ x ∷ rest → ys ≡ y ∷ others → E x y ≡ true → pointwise E xs ys ≡ pointwise E rest others
  same_next xs ys rest others x y left right same = (λ i. pointwise E (left i) (right i)) ∙ ap (λ (b : Bool). b && pointwise E rest others) same

  pub not_same : (xs ys rest others : List A) (x y : A) → xs ≡ x ∷ rest → ys ≡ y ∷ others → E x y ≡ false → pointwise E xs ys ≡ false
  not_same xs ys rest others x y left right differ = (λ i. pointwise E (left i) (right i)) ∙ ap (λ (b : Bool). b && pointwise E rest others) differ

  pub too_short : (xs ys rest : List A) (x : A) → xs ≡ x ∷ rest → ys ≡ [] → pointwise E xs ys ≡ false
  too_short xs ys rest x left right = λ i. pointwise E (left i) (right i)

  pub both_gone : (xs ys : List A) → xs ≡ [] → ys ≡ [] → pointwise E xs ys ≡ true
  both_gone xs ys left right = λ i. pointwise E (left i) (right i)

  pub too_long : (xs ys others : List A) (y : A) → xs ≡ [] → ys ≡ y ∷ others → pointwise E xs ys ≡ false
  too_long xs ys others y left right = λ i. pointwise E (left i) (right i)
