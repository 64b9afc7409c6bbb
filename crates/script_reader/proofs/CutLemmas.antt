-- Lines cut from the parts of a text.
use Rattle.std.proofs.Common.{◌≡◌, ◌∙◌, ℕ, List, [], ◌∷◌, ◌++◌, true, false, map, inl, inr, refl, ap, eqb, ◌≢◌}
use Rattle.std.specs.Prelude.{◌⊎◌, ◌&&◌, cond}
use Rattle.std.specs.List.{list_all}
use Rattle.std.proofs.lemmas.Bool.{eq-eqb}
use Rattle.std.proofs.lemmas.Bool.Decides.{eqb_tells}
use Rattle.script_reader.specs.Parts.{last_line}
use Rattle.script_spec.specs.ScriptText.{is_blank, lines_of_parts, trimmed, without_return}

pub dropped : (front : List ℕ) (b : ℕ) → eqb b 13 ≡ true → without_return (front ++ b ∷ []) ≡ front
dropped [] b e = ap (λ t. cond t [] (b ∷ [])) e
dropped (x ∷ []) b e = ap (λ bytes. x ∷ bytes) (dropped [] b e)
dropped (x ∷ y ∷ front) b e = ap (λ bytes. x ∷ bytes) (dropped (y ∷ front) b e)

pub stays : (front : List ℕ) (b : ℕ) → eqb b 13 ≡ false → without_return (front ++ b ∷ []) ≡ front ++ b ∷ []
stays [] b e = ap (λ t. cond t [] (b ∷ [])) e
stays (x ∷ []) b e = ap (λ bytes. x ∷ bytes) (stays [] b e)
stays (x ∷ y ∷ front) b e = ap (λ bytes. x ∷ bytes) (stays (y ∷ front) b e)

pub lines_pushed : (parts : List (List ℕ)) (last : List ℕ) → lines_of_parts (parts ++ last ∷ []) ≡ map without_return parts ++ last_line last
lines_pushed [] last = refl
lines_pushed (part ∷ []) last = refl
lines_pushed (part ∷ next ∷ parts) last = ap (λ lines. without_return part ∷ lines) (lines_pushed (next ∷ parts) last)

pub is_13 : (b : ℕ) → b ≡ 13 → eqb b 13 ≡ true
is_13 b e = eq-eqb b 13 e

pub not_13 : (b : ℕ) → (b ≡ 13 → ⊥) → eqb b 13 ≡ false
not_13 b n = decide (eqb_tells b 13)
  where
    decide : ((eqb b 13 ≡ true) × (b ≡ 13)) ⊎ ((eqb b 13 ≡ false) × (b ≢ 13)) → eqb b 13 ≡ false
    decide (inl x) = absurd (n x.1)
    decide (inr x) = x.0

all_blank : (front : List ℕ) (b : ℕ) → is_blank b ≡ true → list_all is_blank (front ++ b ∷ []) ≡ list_all is_blank front
all_blank [] b e = ap (λ t. t && true) e
all_blank (x ∷ front) b e = ap (λ t. is_blank x && t) (all_blank front b e)

-- a blank at the end
pub blank_end : (front : List ℕ) (b : ℕ) → is_blank b ≡ true → trimmed (front ++ b ∷ []) ≡ trimmed front
blank_end [] b e = ap (λ t. cond (t && true) [] (b ∷ [])) e
blank_end (x ∷ front) b e = ap (λ t. cond t [] (x ∷ trimmed (front ++ b ∷ []))) (all_blank (x ∷ front) b e) ∙ ap (λ ys. cond (list_all is_blank (x ∷ front)) [] (x ∷ ys)) (blank_end front b e)
