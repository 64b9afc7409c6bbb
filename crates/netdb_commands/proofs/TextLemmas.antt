-- A text that was written of a design that has all that is wanted.
use Rattle.std.proofs.Common.{List, Option}
use Prim.Native.Nat.{ℕ}
use Rattle.netlist_schema.specs.Design.{Design}
use Rattle.netdb_spec.specs.declared.command.Wanted.{Wanted}
use Rattle.netdb_spec.specs.declared.status.Status.{Status}
use Rattle.netdb_spec.specs.declared.status.Status.TheVariants as status
use Rattle.netdb_spec.specs.Gives.{OutputGives, TextGives}
use Rattle.netdb_spec.specs.Output.{output, HasTop}

pub served : (wanted : Wanted) (d : Design) (old new : Option (List ℕ)) (result : Status) → HasTop wanted d → TextGives (output wanted d) old new result → OutputGives wanted d old new result
served wanted d old new status.Ok top h = (top, h)
served wanted d old new status.Usage top h = absurd h
served wanted d old new (status.Missing word) top h = absurd h
served wanted d old new (status.ReadFault word) top h = absurd h
served wanted d old new status.WriteFault top h = (top, h)
served wanted d old new (status.BadEdif fault) top h = absurd h
served wanted d old new (status.BadScript word line) top h = absurd h
served wanted d old new (status.TooLarge word) top h = absurd h
served wanted d old new status.NoTop top h = absurd h
served wanted d old new status.LogFull top h = absurd h
served wanted d old new status.NoMemory top h = (top, h)
