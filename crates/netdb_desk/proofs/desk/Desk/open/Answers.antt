use Rattle.netdb_desk.proofs.Seating.{desk_opened}
use Rattle.netdb_desk.proofs.desk.Desk.open.Goals as goal

pub invariant_of-result : goal.invariant_of-result
invariant_of-result c = desk_opened c.in_ok-core.core c.in_ok-seats.seats.items c.in_ok-seats.ensures
