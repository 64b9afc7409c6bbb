-- What writing to a sink comes to, for a design with a top.
use Rattle.std.specs.Prelude.{Result, Ok, Err}
use Rattle.netdb_outside.specs.declared.write_error.WriteError.{WriteError}
use Rattle.netdb_outside.specs.declared.write_error.WriteError.TheVariants as sink
use Rattle.flat_writer.specs.declared.error.FlatError.{FlatError}
use Rattle.flat_writer.specs.declared.error.FlatError.TheVariants.{WriteFault, NoMemory}

abbrev pub outcome_of : Result (Unit {0}) WriteError → Result (Unit {0}) FlatError
outcome_of (Ok done) = Ok done
outcome_of (Err sink.WriteFault) = Err WriteFault
outcome_of (Err sink.NoMemory) = Err NoMemory
