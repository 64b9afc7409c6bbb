-- Strings whose bytes all stand for themselves.
use Rattle.std.proofs.Common.{◌≡◌, ℕ, List, [], ◌∷◌, ◌++◌, true, refl, ap, ◌∙◌}
use Rattle.std.specs.List.{list_all}
use Rattle.std.specs.Prelude.{decimal}
use Rattle.std.proofs.lemmas.Bool.{and_parts, cond-true}
use Rattle.edif_spec.specs.Canonical.{coded_text, is_plain, plain_text}

pub plain_same : (text : List ℕ) → list_all is_plain text ≡ true → plain_text text ≡ text
plain_same [] h = refl
plain_same (b ∷ bs) h =
    let p = and_parts (is_plain b) (list_all is_plain bs) h in
    cond-true (is_plain b) (b ∷ plain_text bs) (37 ∷ (decimal b ++ coded_text bs)) p.0 ∙ ap (λ v. b ∷ v) (plain_same bs p.1)
