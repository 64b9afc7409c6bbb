-- The test of equality ignoring ASCII case, and equality in lower case.
use Rattle.std.proofs.Common.{◌≡◌, ℕ, List, [], ◌∷◌, true, ◌&&◌, nat_eq, map, refl, ap, ◌∙◌, eq-eqb, eqb-true}
use Rattle.std.specs.Char.{to_ascii_lowercase}
use Rattle.std.proofs.lemmas.Bool.{and_parts}
use Rattle.edif_spec.specs.Keyword.{same}

-- equal ignoring case are equal in lower case
pub same_says : (a b : List ℕ) → same a b ≡ true → map to_ascii_lowercase a ≡ map to_ascii_lowercase b
same_says [] [] h = refl
same_says [] (c ∷ b) h = absurd (cc h)
same_says (x ∷ a) [] h = absurd (cc h)
same_says (x ∷ a) (y ∷ b) h =
    let t = and_parts (nat_eq (to_ascii_lowercase x) (to_ascii_lowercase y)) (same a b) h in
    let e : to_ascii_lowercase x ≡ to_ascii_lowercase y = eqb-true _ _ t.0 in
    let f : map to_ascii_lowercase a ≡ map to_ascii_lowercase b = same_says a b t.1 in cc

-- and the other way round
pub says_same : (a b : List ℕ) → map to_ascii_lowercase a ≡ map to_ascii_lowercase b → same a b ≡ true
says_same [] [] h = refl
says_same [] (c ∷ b) h = absurd (cc h)
says_same (x ∷ a) [] h = absurd (cc h)
says_same (x ∷ a) (y ∷ b) h =
    let e : to_ascii_lowercase x ≡ to_ascii_lowercase y = cc h in
    let f : map to_ascii_lowercase a ≡ map to_ascii_lowercase b = cc h in
    ap (λ v. v && same a b) (eq-eqb _ _ e) ∙ says_same a b f
