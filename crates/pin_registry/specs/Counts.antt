-- Counts by version.
use Rattle.std.specs.Prelude.{ℕ, unwrap_or}
use Rattle.std.specs.Ordering.{nat_cmp}
use Rattle.std.specs.BTreeMap.{BTreeMap, get}

-- the count of a version, which is 0 where it has no entry
abbrev pub count_at : BTreeMap ℕ ℕ → ℕ → ℕ
count_at counts version = unwrap_or (get nat_cmp counts version) 0
