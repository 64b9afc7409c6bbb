-- A name spells no keyword whose spelling is longer or shorter.
use Rattle.std.proofs.Common.{◌≡◌, ℕ, List, [], ◌∷◌, length, refl, sym, ap, ◌∙◌, Bool, true, false, ◌&&◌, nat_eq, Some, suc, eq-eqb}
use Rattle.std.specs.Prelude.{cond, filter}
use Rattle.std.specs.Char.{to_ascii_lowercase}
use Rattle.edif_spec.specs.Keyword.{first_spelled, keyword, all_keywords, same, spelling_of}
use Rattle.edif_spec.specs.declared.keyword.Keyword.{Keyword}
use Rattle.edif_keywords.specs.Table.{as_long}

behind : (a b : Bool) → (a && b) ≡ true → b ≡ true
behind true b h = h
behind false b h = absurd (cc h)

same_length : (a b : List ℕ) → same a b ≡ true → length b ≡ length a
same_length [] [] h = refl
same_length [] (y ∷ b) h = absurd (cc h)
same_length (x ∷ a) [] h = absurd (cc h)
same_length (x ∷ a) (y ∷ b) h = ap suc (same_length a b (behind (nat_eq (to_ascii_lowercase x) (to_ascii_lowercase y)) (same a b) h))

-- one of another length may be left out
left_out : (name : List ℕ) (k : Keyword) (ks : List Keyword) → nat_eq (length (spelling_of k)) (length name) ≡ false → first_spelled name (k ∷ ks) ≡ first_spelled name ks
left_out name k ks h = go (same name (spelling_of k)) refl
  where
    go : (b : Bool) → same name (spelling_of k) ≡ b → cond b (Some k) (first_spelled name ks) ≡ first_spelled name ks
    go true e = absurd (let l = same_length name (spelling_of k) e in let w : true ≡ false = sym (eq-eqb (length (spelling_of k)) (length name) l) ∙ h in cc w)
    go false e = refl

as_long_step : (name : List ℕ) (ks : List Keyword) → first_spelled name (filter (λ k. nat_eq (length (spelling_of k)) (length name)) ks) ≡ first_spelled name ks
as_long_step name [] = refl
as_long_step name (k ∷ ks) = go (nat_eq (length (spelling_of k)) (length name)) refl (as_long_step name ks)
  where
    go : (b : Bool) → nat_eq (length (spelling_of k)) (length name) ≡ b → first_spelled name (filter (λ k. nat_eq (length (spelling_of k)) (length name)) ks) ≡ first_spelled name ks
        → first_spelled name (cond b (k ∷ filter (λ k. nat_eq (length (spelling_of k)) (length name)) ks) (filter (λ k. nat_eq (length (spelling_of k)) (length name)) ks)) ≡ first_spelled name (k ∷ ks)
    go true e r = ap (λ v. cond (same name (spelling_of k)) (Some k) v) r
    go false e r = r ∙ sym (left_out name k ks e)

-- those of its length decide
pub long_decide : (name : List ℕ) → first_spelled name (as_long (length name)) ≡ keyword name
long_decide name = as_long_step name all_keywords
