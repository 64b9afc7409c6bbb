-- What stands behind a number and a blank.
use Rattle.std.proofs.Common.{◌≡◌, ◌∙◌, ℕ, List, [], ◌∷◌, ◌++◌, ap, sym}
use Rattle.std.specs.Prelude.{◌<◌, MatchOption, Option, Some, None, codes, decimal}
use Rattle.std.proofs.lemmas.List.{append_cancel_left}
use Rattle.history_check_spec.specs.Heads.{head_text}
use Rattle.report_parts.specs.Parts.{CallOf, Heads, HeadsNone}
use Rattle.report_parts.specs.declared.heads.Next.{Next}

-- behind digits, and then behind a blank
pub behind_blank : {X : Type 0} (now : X → List ℕ) (text digits rest d : List ℕ) → text ≡ digits ++ rest → digits ≡ d → (r : Option X)
    → MatchOption r ((more : List ℕ) → ¬ (rest ≡ 32 ∷ more)) (λ more. rest ≡ 32 ∷ now more)
    → MatchOption r ((more : List ℕ) → ¬ (text ≡ d ++ 32 ∷ more)) (λ more. text ≡ d ++ 32 ∷ now more)
behind_blank now text digits rest d e is None none = λ more same. none more (append_cancel_left d rest (32 ∷ more) (ap (λ (z : List ℕ). z ++ rest) (sym is) ∙ sym e ∙ same))
behind_blank now text digits rest d e is (Some x) some = e ∙ ap (λ (z : List ℕ). z ++ rest) is ∙ ap (λ (z : List ℕ). d ++ z) some

-- ---- the head of an event

module _ (text words rest : List ℕ) (number callers : ℕ) (numbered : text ≡ decimal number ++ 32 ∷ words) where
  -- behind the number
  behind : (caller : ℕ) (more : List ℕ) → text ≡ head_text number caller more → words ≡ codes "caller" ++ 32 ∷ (decimal caller ++ 32 ∷ more)
  behind caller more same =
      let e : decimal number ++ 32 ∷ words ≡ decimal number ++ 32 ∷ (codes "caller" ++ 32 ∷ (decimal caller ++ 32 ∷ more)) = sym numbered ∙ same in
      append_cancel_left (32 ∷ []) words (codes "caller" ++ 32 ∷ (decimal caller ++ 32 ∷ more)) (append_cancel_left (decimal number) (32 ∷ words) (32 ∷ (codes "caller" ++ 32 ∷ (decimal caller ++ 32 ∷ more))) e)

  pub no_word : ((more : List ℕ) → ¬ (words ≡ codes "caller " ++ more)) → HeadsNone text number callers
  no_word none caller more less same = none (decimal caller ++ 32 ∷ more) (behind caller more same)

  pub heads_by : words ≡ codes "caller " ++ rest → (r : Option Next)
      → MatchOption r ((caller : ℕ) (more : List ℕ) → caller < callers → ¬ (rest ≡ decimal caller ++ 32 ∷ more)) (λ next. (next.caller < callers) × CallOf rest next.caller next)
      → MatchOption r (HeadsNone text number callers) (Heads text number callers)
  heads_by called None none = λ caller more less same. none caller more less (append_cancel_left (codes "caller ") rest (decimal caller ++ 32 ∷ more) (sym called ∙ behind caller more same))
  heads_by called (Some next) some = record {
    known = some.0;
    more = some.1.more;
    head = numbered ∙ ap (λ (z : List ℕ). decimal number ++ 32 ∷ z) (called ∙ ap (λ (z : List ℕ). codes "caller " ++ z) some.1.call);
    release = some.1.release;
  }
