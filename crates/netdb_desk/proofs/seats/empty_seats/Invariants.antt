use Rattle.std.proofs.Common.{◌≡◌}
use Rattle.std.specs.Prelude.{replicate}
use Rattle.netdb_desk.specs.declared.held.Held.TheVariants.{Nothing}
use Rattle.netdb_desk.proofs.seats.empty_seats.Given as goal

abbrev pub invariant-loop-seat : goal.invariant-loop-seat
invariant-loop-seat l = l.seats.items ≡ replicate l._seat Nothing
