-- Texts that are compared part by part.
use Rattle.std.proofs.Common.{◌≡◌, ◌∙◌, ℕ, suc, ◌+◌, ◌<◌, ◌≤◌, Bool, false, List, ◌++◌, length, drop, get_or, ap, sym, arith, append_assoc}
use Rattle.std.specs.Prelude.{◌↔◌, IfOk, MatchOption, Option, Some, None, Result, Ok, Err, IsTrue}
use Rattle.std.proofs.Math.Seq.{drop-cons}
use Rattle.std.proofs.lemmas.List.{append_cancel_left, drop_all}
use Rattle.script_run_spec.specs.Written.{numbered_text, numbered_texts}

-- ---- a part behind a front

-- behind the front, and then behind the part
pub behind_then : {X : Type 0} (now : X → List ℕ) (text front rest part wanted : List ℕ) → text ≡ front ++ rest → part ≡ wanted → (r : Option X)
    → MatchOption r ((more : List ℕ) → ¬ (rest ≡ part ++ more)) (λ more. rest ≡ part ++ now more)
    → MatchOption r ((more : List ℕ) → ¬ (text ≡ (front ++ wanted) ++ more)) (λ more. text ≡ (front ++ wanted) ++ now more)
behind_then now text front rest part wanted e is None none = λ more same.
    none more (append_cancel_left front rest (part ++ more) (sym e ∙ same ∙ append_assoc front wanted more ∙ ap (λ (z : List ℕ). front ++ (z ++ more)) (sym is)))
behind_then now text front rest part wanted e is (Some x) some =
    e ∙ ap (λ (z : List ℕ). front ++ z) some ∙ ap (λ (z : List ℕ). front ++ (z ++ now x)) is ∙ sym (append_assoc front wanted (now x))

-- there is no such front
pub behind_no : (text front wanted : List ℕ) → ((more : List ℕ) → ¬ (text ≡ front ++ more)) → (more : List ℕ) → ¬ (text ≡ (front ++ wanted) ++ more)
behind_no text front wanted none more same = none (wanted ++ more) (same ∙ append_assoc front wanted more)

-- ---- transcripts

step_text : (texts : List (List ℕ)) (k : ℕ) (r : List ℕ) → k < length texts → numbered_texts k (drop k texts) ≡ numbered_text k (get_or texts k r) ++ numbered_texts (k + 1) (drop (k + 1) texts)
step_text texts k r less =
    let one : suc k ≡ k + 1 = omega arith in
    ap (numbered_texts k) (drop-cons texts k r less) ∙ ap (λ (n : ℕ). numbered_text k (get_or texts k r) ++ numbered_texts (k + 1) (drop n texts)) one

module _ (texts : List (List ℕ)) (text rest : List ℕ) (k : ℕ) (item said : List ℕ) (less : k < length texts) (is : item ≡ get_or texts k item) (same : said ≡ item) where
  parts : (more : List ℕ) → numbered_texts k (drop k texts) ++ more ≡ numbered_text k said ++ (numbered_texts (k + 1) (drop (k + 1) texts) ++ more)
  parts more =
      ap (λ (z : List ℕ). z ++ more) (step_text texts k item less ∙ ap (λ (z : List ℕ). numbered_text k z ++ numbered_texts (k + 1) (drop (k + 1) texts)) (sym (same ∙ is)))
      ∙ append_assoc (numbered_text k said) (numbered_texts (k + 1) (drop (k + 1) texts)) more

  -- the text goes on with another one
  pub none_behind : ((more : List ℕ) → text ≡ numbered_texts 0 texts ++ more → rest ≡ numbered_texts k (drop k texts) ++ more) → ((more : List ℕ) → ¬ (rest ≡ numbered_text k said ++ more))
      → (more : List ℕ) → ¬ (text ≡ numbered_texts 0 texts ++ more)
  none_behind on none more e = none (numbered_texts (k + 1) (drop (k + 1) texts) ++ more) (on more e ∙ parts more)

  -- one more is behind
  pub on_next : ((more : List ℕ) → text ≡ numbered_texts 0 texts ++ more → rest ≡ numbered_texts k (drop k texts) ++ more) → (next : List ℕ) → rest ≡ numbered_text k said ++ next
      → (more : List ℕ) → text ≡ numbered_texts 0 texts ++ more → next ≡ numbered_texts (k + 1) (drop (k + 1) texts) ++ more
  on_next on next e more whole = append_cancel_left (numbered_text k said) next (numbered_texts (k + 1) (drop (k + 1) texts) ++ more) (sym e ∙ on more whole ∙ parts more)

  pub back_next : ((more : List ℕ) → rest ≡ numbered_texts k (drop k texts) ++ more → text ≡ numbered_texts 0 texts ++ more) → (next : List ℕ) → rest ≡ numbered_text k said ++ next
      → (more : List ℕ) → next ≡ numbered_texts (k + 1) (drop (k + 1) texts) ++ more → text ≡ numbered_texts 0 texts ++ more
  back_next back next e more at = back more (e ∙ ap (λ (z : List ℕ). numbered_text k said ++ z) at ∙ sym (parts more))

-- all are behind
pub all_behind : (texts : List (List ℕ)) (text rest : List ℕ) (k : ℕ) → length texts ≤ k → ((more : List ℕ) → rest ≡ numbered_texts k (drop k texts) ++ more → text ≡ numbered_texts 0 texts ++ more)
    → text ≡ numbered_texts 0 texts ++ rest
all_behind texts text rest k le back = back rest (sym (ap (λ (z : List (List ℕ)). numbered_texts k z ++ rest) (drop_all k texts le)))

-- ---- what is behind a front is compared

pub same_behind : (text front rest wanted : List ℕ) (r : Bool) → text ≡ front ++ rest → IsTrue r ↔ (rest ≡ wanted) → IsTrue r ↔ (text ≡ front ++ wanted)
same_behind text front rest wanted r e iff =
    (λ h. e ∙ ap (λ (z : List ℕ). front ++ z) (iff.0 h), λ whole. iff.1 (append_cancel_left front rest wanted (sym e ∙ whole)))

pub other_front : (text front wanted : List ℕ) → ((more : List ℕ) → ¬ (text ≡ front ++ more)) → IsTrue false ↔ (text ≡ front ++ wanted)
other_front text front wanted none = (λ h. absurd (cc h), λ whole. absurd (none wanted whole))

pub if_ok_on : {E : Type 0} (r : Result Bool E) (P Q : Bool → Type 0) → ((b : Bool) → P b → Q b) → IfOk r P → IfOk r Q
if_ok_on (Ok b) P Q f p = f b p
if_ok_on (Err e) P Q f p = tt
