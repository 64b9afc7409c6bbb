-- What the fields of a registry stand for.
use Rattle.std.specs.Prelude.{◌≡◌, ℕ, ◌<◌, ◌≤◌, ◌==◌, map, length, count_by, All}
use Rattle.std.specs.Ordering.{nat_cmp}
use Rattle.std.specs.BTreeMap.{keys, values, IsOrdered}
use Rattle.pin_registry.specs.Counts.{count_at}
use Rattle.pin_registry.specs.Registry.{Registry, live_pin}
use Rattle.pin_registry.specs.declared.pins.Pins.TheInside.{Inside}
use Rattle.pin_registry.specs.declared.pins.TheConstants.{MOST_PINS}

-- the live pins, each with its version
abbrev pub registry_of : Inside → Registry
registry_of pins = record { made = pins.made; live = map (λ entry. live_pin entry.0 entry.1) pins.versions.entries }

-- the entries are those of pins that were made, and the counts are theirs
pub record IsRegistry (pins : Inside) : Type 0 where
  pub ordered : IsOrdered nat_cmp pins.versions
  -- each live pin has the number of one that was made
  pub numbered : All (λ number. number < pins.made) (keys pins.versions)
  pub few : length pins.versions.entries ≤ pins.made
  pub made : pins.made ≤ MOST_PINS
  -- each version is counted as often as live pins hold it
  pub counted : (version : ℕ) → count_at pins.holders version ≡ count_by (λ held. held == version) (values pins.versions)
