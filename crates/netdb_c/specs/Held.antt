-- What a handle holds, as the logic keeps it.
use Rattle.std.specs.Prelude.{Option}
use Rattle.std.specs.Coded.{Coded, coded_option}
use Rattle.netdb_calls.specs.contracts.opened.Opened.{the_row}

abbrev pub held_coded : Coded (Option the_row.Denot)
held_coded = coded_option the_row.coded
