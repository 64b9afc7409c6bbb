-- Two tests that both pass.
use Rattle.std.proofs.Common.{◌≡◌, refl, Bool, true, false}
use Rattle.std.specs.Prelude.{IsTrue, ◌&&◌}

-- a `&&` is true where both sides are
pub both : (a b : Bool) → IsTrue (a && b) → (a ≡ true) × IsTrue b
both true b h = (refl, h)
both false b h = absurd (cc h)

pub and_true : (a b : Bool) → a ≡ true → b ≡ true → IsTrue (a && b)
and_true true b h k = k
and_true false b h k = absurd (cc h)
