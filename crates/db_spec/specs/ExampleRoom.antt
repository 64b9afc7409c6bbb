-- Worked histories: how many pins have room, one after the other and all at once.
use Rattle.std.specs.Prelude.{◌≡◌, ℕ, zero, suc, ◌*◌, ◌<◌, List, [], ◌∷◌, ◌++◌, length, ◌↔◌}
use Rattle.netlist_schema.specs.Design.{Design}
use Rattle.db_spec.specs.declared.event.Answer.TheVariants.{Pinned, Released}
use Rattle.db_spec.specs.declared.event.Call.TheVariants.{Pin, Release, Collect}
use Rattle.db_spec.specs.declared.event.Event.{Event}
use Rattle.db_spec.specs.Answers.{HasRoom}
use Rattle.db_spec.specs.Example.{event}
use Rattle.db_spec.specs.History.{Legal, state_after}

-- this many times, caller 0 pins version 0 and releases the pin
abbrev pub rounds : ℕ → List Event
rounds zero = []
rounds (suc n) = rounds n ++ event 0 Pin (Pinned n 0) ∷ event 0 (Release n) Released ∷ []

-- this many times, caller 0 pins version 0 and keeps the pin
abbrev pub held_pins : ℕ → List Event
held_pins zero = []
held_pins (suc n) = held_pins n ++ event 0 Pin (Pinned n 0) ∷ []

-- after n rounds: for 2,097,151 of them 4,194,302 events and room for one more pin; for 2,097,152 of them 4,194,304 events and
-- no room for a pin or a collect
pub record HaveRounds (d : Design) (n : ℕ) : Type 0 where
  pub legal : Legal d (rounds n)
  pub events : (state_after d (rounds n)).events ≡ 2 * n
  pub live : (state_after d (rounds n)).pins ≡ []
  pub room_for_a_pin : HasRoom (state_after d (rounds n)) Pin ↔ (n < 2097152)
  pub room_for_a_collect : HasRoom (state_after d (rounds n)) Collect ↔ (n < 2097152)

-- with n pins held: room for one more exactly where there are fewer than 2,097,152
pub record HavePins (d : Design) (n : ℕ) : Type 0 where
  pub legal : Legal d (held_pins n)
  pub events : (state_after d (held_pins n)).events ≡ n
  pub live : length (state_after d (held_pins n)).pins ≡ n
  pub room_for_a_pin : HasRoom (state_after d (held_pins n)) Pin ↔ (n < 2097152)
