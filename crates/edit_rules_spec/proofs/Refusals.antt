-- Refusals that do not apply, and names that are the same.
use Rattle.std.proofs.Common.{◌≡◌, ℕ, Bool, true, false, List, ◌∷◌, map, Option, Some, None, refl, subst}
use Rattle.std.specs.Char.{to_ascii_lowercase}
use Rattle.std.specs.Cmp.Lexicographic.{nat_list_eq_equiv, bytes_decides}
use Rattle.edit_rules_spec.specs.Find.{is_name, is_same}
use Rattle.edit_rules_spec.specs.Rule.{first, refuse}
use Rattle.edit_rules_spec.specs.declared.reply.Reply.{Reply}

-- refusals that do not apply
pub first_none : (refusal : Option Reply) (rest : List (Option Reply)) → first (refusal ∷ rest) ≡ None → (refusal ≡ None) × (first rest ≡ None)
first_none None rest none = (refl, none)
first_none (Some reply) rest none = cc

pub not_refused : (test : Bool) (reply : Reply) → refuse test reply ≡ None → test ≡ false
not_refused false reply none = refl
not_refused true reply none = cc

-- a name that is nowhere among others, even when case is ignored
pub is_name-refl : (name : List ℕ) → is_name name name ≡ true
is_name-refl name = (nat_list_eq_equiv).refl name

pub is_same-refl : (a b : List ℕ) → a ≡ b → is_same a b ≡ true
is_same-refl a b same = subst (λ (c : List ℕ). is_same a c ≡ true) same (is_name-refl (map to_ascii_lowercase a))

pub same_name : (a b : List ℕ) → is_name a b ≡ true → a ≡ b
same_name a b is = (bytes_decides a b).0 is
