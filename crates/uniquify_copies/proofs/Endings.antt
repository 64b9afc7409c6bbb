-- Two names with endings are the same, ignoring case, only where the names before the endings are, and the numbers.
use Rattle.std.proofs.Common.{◌≡◌, ◌<◌, ◌^◌, ℕ, List, [], ◌∷◌, ◌++◌, refl, sym, ap, ◌∙◌, arith, append_assoc, true}
use Rattle.std.specs.Prelude.{codes, decimal}
use Rattle.std.specs.Str.Parse.{AllDigits}
use Rattle.std.proofs.lemmas.Fmt.{decimal_injective, decimal_is_IsNumeral}
use Rattle.std.proofs.lemmas.Str.Parse.{digit_from_value}
use Rattle.edit_rules_spec.specs.Find.{is_same}
use Rattle.edit_rules_spec.proofs.Numbers.{lower, lower_numbered}
use Rattle.uniquify_spec.specs.Copies.{numbered}
use Rattle.uniquify_spec.proofs.CopyLists.{same_path-true}

lower_ending : (id : List ℕ) (n : ℕ) → n < 2 ^ 64 → lower (numbered id n) ≡ lower id ++ 95 ∷ 117 ∷ decimal n
lower_ending id n small = lower_numbered id (codes "_u") n small

-- no digit is the letter of an ending
no_letter : (ys es ds : List ℕ) → AllDigits 10 ds → ds ≡ ys ++ 117 ∷ es → ⊥
no_letter [] es [] d e = cc
no_letter (y ∷ ys) es [] d e = cc
no_letter [] es (c ∷ cs) d e =
    let r = digit_from_value c d.0 in
    let is : c ≡ 117 = cc in
    absurd (omega (arith, r, is))
no_letter (y ∷ ys) es (c ∷ cs) d e = let tails : cs ≡ ys ++ 117 ∷ es = cc in no_letter ys es cs d.1 tails

no_ending : (ys es ds : List ℕ) → AllDigits 10 ds → ds ≡ ys ++ 95 ∷ 117 ∷ es → ⊥
no_ending ys es ds d e = no_letter (ys ++ 95 ∷ []) es ds d (e ∙ sym (append_assoc ys (95 ∷ []) (117 ∷ es)))

other_letter : (z : ℕ) (xs ys : List ℕ) → z ≡ 117 → z ∷ xs ≡ 95 ∷ ys → ⊥
other_letter z xs ys is e = let head : z ≡ 95 = cc in absurd (omega (arith, is, head))

pub ends_same : (xs ys ds es : List ℕ) → AllDigits 10 ds → AllDigits 10 es → xs ++ 95 ∷ 117 ∷ ds ≡ ys ++ 95 ∷ 117 ∷ es → (xs ≡ ys) × (ds ≡ es)
ends_same [] [] ds es d f e = (refl, cc)
ends_same [] (y ∷ []) ds es d f e =
    let tails : 117 ∷ ds ≡ 95 ∷ 117 ∷ es = cc in absurd (other_letter 117 ds (117 ∷ es) refl tails)
ends_same [] (y ∷ z ∷ ys) ds es d f e = let tails : ds ≡ ys ++ 95 ∷ 117 ∷ es = cc in absurd (no_ending ys es ds d tails)
ends_same (x ∷ []) [] ds es d f e =
    let tails : 117 ∷ es ≡ 95 ∷ 117 ∷ ds = cc in absurd (other_letter 117 es (117 ∷ ds) refl tails)
ends_same (x ∷ z ∷ xs) [] ds es d f e = let tails : es ≡ xs ++ 95 ∷ 117 ∷ ds = cc in absurd (no_ending xs ds es f tails)
ends_same (x ∷ xs) (y ∷ ys) ds es d f e =
    let heads : x ≡ y = cc in
    let tails : xs ++ 95 ∷ 117 ∷ ds ≡ ys ++ 95 ∷ 117 ∷ es = cc in
    let rest = ends_same xs ys ds es d f tails in
    ((λ t. heads t ∷ rest.0 t), rest.1)

pub numbered_same : (a b : List ℕ) (m n : ℕ) → m < 2 ^ 64 → n < 2 ^ 64 → is_same (numbered a m) (numbered b n) ≡ true → (lower a ≡ lower b) × (m ≡ n)
numbered_same a b m n p q same =
    let whole = sym (lower_ending a m p) ∙ same_path-true (lower (numbered a m)) (lower (numbered b n)) same ∙ lower_ending b n q in
    let parts = ends_same (lower a) (lower b) (decimal m) (decimal n) (decimal_is_IsNumeral m p).0.1 (decimal_is_IsNumeral n q).0.1 whole in
    (parts.0, decimal_injective m n p q parts.1)

-- names that are the same before the ending are the same with it
pub numbered_alike : (a b : List ℕ) (n : ℕ) → n < 2 ^ 64 → lower a ≡ lower b → lower (numbered a n) ≡ lower (numbered b n)
numbered_alike a b n small same = lower_ending a n small ∙ ap (λ v. v ++ 95 ∷ 117 ∷ decimal n) same ∙ sym (lower_ending b n small)
