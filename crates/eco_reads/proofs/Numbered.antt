-- Names whose numbers differ.
use Rattle.std.proofs.Common.{◌≡◌, ◌≢◌, ◌%◌, ◌^◌, ℕ, List, Bool, true, false, refl, ap, map}
use Rattle.std.specs.Char.{to_ascii_lowercase}
use Rattle.netlist_schema.specs.Marks.{hash_of}
use Rattle.netlist_schema.proofs.MarkLemmas.{same_hash}
use Rattle.edit_rules_spec.specs.Find.{is_name, is_same}
use Rattle.edit_rules_spec.proofs.Refusals.{same_name}

-- they are not equal, also where the case of letters is ignored
pub apart_same : (a b : List ℕ) → hash_of a % 2 ^ 32 ≢ hash_of b % 2 ^ 32 → is_same a b ≡ false
apart_same a b apart = by_test (is_same a b) refl
  where
    by_test : (same : Bool) → is_same a b ≡ same → same ≡ false
    by_test false is = refl
    by_test true is = absurd (apart (ap (λ (n : ℕ). n % 2 ^ 32) (same_hash a b (same_name (map to_ascii_lowercase a) (map to_ascii_lowercase b) is))))

pub apart_name : (a b : List ℕ) → hash_of a % 2 ^ 32 ≢ hash_of b % 2 ^ 32 → is_name a b ≡ false
apart_name a b apart = by_test (is_name a b) refl
  where
    by_test : (same : Bool) → is_name a b ≡ same → same ≡ false
    by_test false is = refl
    by_test true is = absurd (apart (ap (λ (n : ℕ). n % 2 ^ 32) (same_hash a b (ap (map to_ascii_lowercase) (same_name a b is)))))
