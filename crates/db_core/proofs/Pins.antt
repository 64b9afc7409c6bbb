-- The live pins, as the registry has them.
use Rattle.std.proofs.Common.{◌≡◌, ℕ, ◌==◌, ◌||◌, not, cond, Bool, true, false, List, [], ◌∷◌, length, map, filter, refl, ap}
use Rattle.std.specs.List.{list_any}
use Rattle.std.proofs.lemmas.List.{length-map}
use Rattle.pin_registry.specs.Registry.{LivePin as HeldPin}
use Rattle.db_spec.specs.State.{LivePin}
use Rattle.db_core.specs.Inside.{held}

pub few_held : (pins : List LivePin) → length (map held pins) ≡ length pins
few_held pins = length-map pins held

-- the pins that are left once one is released
pub filter_held : (number : ℕ) (pins : List LivePin) → filter (λ (p : HeldPin). not (p.number == number)) (map held pins) ≡ map held (filter (λ p. not (p.number == number)) pins)
filter_held number [] = refl
filter_held number (p ∷ ps) = one (not (p.number == number)) (filter_held number ps)
  where
    one : (b : Bool) → filter (λ (q : HeldPin). not (q.number == number)) (map held ps) ≡ map held (filter (λ q. not (q.number == number)) ps)
        → cond b (held p ∷ filter (λ (q : HeldPin). not (q.number == number)) (map held ps)) (filter (λ (q : HeldPin). not (q.number == number)) (map held ps))
        ≡ map held (cond b (p ∷ filter (λ q. not (q.number == number)) ps) (filter (λ q. not (q.number == number)) ps))
    one true e = ap (λ qs. held p ∷ qs) e
    one false e = e

-- a live pin is on the version
pub any_held : (v : ℕ) (pins : List LivePin) → list_any (λ (p : HeldPin). p.version == v) (map held pins) ≡ list_any (λ p. p.version == v) pins
any_held v [] = refl
any_held v (p ∷ ps) = ap (λ b. (p.version == v) || b) (any_held v ps)
