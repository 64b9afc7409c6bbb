use Rattle.std.proofs.Common.{◌≡◌, vec_len}
use Rattle.std.specs.List.{All}
use Rattle.history_turns.specs.Seats.{IsOpen}
use Rattle.history_check.proofs.replay.open_seats.Given as goal

abbrev pub invariant-loop-made : goal.invariant-loop-made
invariant-loop-made l = record {
  count : vec_len l.seats ≡ l._made;
  fresh : All IsOpen l.seats.items;
}
