use Rattle.turn_cell.specs.Seats.{IsAtRest, IsSameSeat}
use Rattle.test_db_parts.proofs.turns.take_turns.Given as goal

abbrev pub invariant-loop-round : goal.invariant-loop-round
invariant-loop-round g l = IsAtRest l.seat × IsSameSeat l.initial.seat l.seat
