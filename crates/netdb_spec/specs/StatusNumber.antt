-- The number of each status.
use Rattle.std.specs.Prelude.{ℕ}
use Rattle.netdb_spec.specs.declared.status.Status.{Status}
use Rattle.netdb_spec.specs.declared.status.Status.TheVariants as status

-- the number with which the program ends
abbrev pub number_of : Status → ℕ
number_of status.Ok = 0
number_of status.Usage = 2
number_of (status.Missing word) = 3
number_of (status.ReadFault word) = 4
number_of status.WriteFault = 5
number_of (status.BadEdif fault) = 6
number_of (status.BadScript word line) = 7
number_of (status.TooLarge word) = 8
number_of status.NoTop = 9
number_of status.LogFull = 10
number_of status.NoMemory = 11
