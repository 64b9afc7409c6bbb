-- Names that are equal when the case of letters is ignored.
use Rattle.std.proofs.Common.{◌≡◌, ℕ, List, ap, map}
use Rattle.std.specs.Char.{to_ascii_lowercase}
use Rattle.netlist_schema.specs.Marks.{hash_from, hash_of}

-- they have one number
pub same_hash : (a b : List ℕ) → map to_ascii_lowercase a ≡ map to_ascii_lowercase b → hash_of a ≡ hash_of b
unfolding hash_of
same_hash a b same = ap (hash_from 0) same
