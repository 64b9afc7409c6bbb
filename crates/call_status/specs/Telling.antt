-- A status as an answer.
use Rattle.std.specs.Prelude.{ℕ}
use Rattle.call_status.specs.declared.told.Told.{Told}
use Rattle.call_status.specs.declared.status.Status.{Status}

-- a status alone, and one with a number
abbrev pub told : Status → ℕ → Told
told status number = record { status = status; number = number }

abbrev pub only : Status → Told
only status = told status 0
