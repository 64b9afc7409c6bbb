-- The numbers of statuses.
use Rattle.std.specs.Prelude.{ℕ}
use Rattle.call_status.specs.declared.status.Status.{Status}
use Rattle.call_status.specs.declared.status.Status.TheVariants as says

abbrev pub number_of : Status → ℕ
number_of says.Done = 0
number_of says.WrongUse = 1
number_of says.BadDesign = 2
number_of says.BadLine = 3
number_of says.Conflict = 4
number_of says.LogFull = 5
number_of says.NoMemory = 6
number_of says.End = 7
number_of says.NoTop = 8
number_of says.TooLarge = 9
number_of says.NoVersion = 10
number_of says.Gone = 11
number_of says.NoPath = 12
number_of says.WriteFault = 13
number_of says.NoField = 14
number_of says.TextLost = 16
number_of says.NoName = 17
number_of says.NoNet = 18
number_of says.Apart = 19
