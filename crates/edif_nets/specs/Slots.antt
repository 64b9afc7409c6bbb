-- Slots, to which numbers come.
use Rattle.std.specs.Prelude.{ℕ, ◌*◌, ◌/◌, ◌%◌, ◌^◌}

-- the slot of a number
abbrev pub slot_of : ℕ → ℕ
slot_of number = number * 11400714819323198485 % 2 ^ 64 / 4294967296 % 4096
