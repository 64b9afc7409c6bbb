use Rattle.std.proofs.Common.{◌≡◌, ◌≤◌, ◌<◌, ℕ, [], slice_get, Some, vec_len, vec_capacity, ◌+◌}
use Rattle.turn_cell.specs.Seats.{new_seat}
use Rattle.turn_cell.specs.Steps.{newcomer}
use Rattle.turn_cell.proofs.turn.deal.Given as goal

abbrev pub invariant-loop-number : goal.invariant-loop-number
invariant-loop-number g l = record {
  own : l.first.table_id ≡ l.shared.table_id;
  first : l.first.me ≡ (newcomer 0 l.number (g.V.Logged.base l.shared.key.opening.value), []);
  long : vec_len l.row + 1 ≡ l.number;
  room : l.seats ≤ vec_capacity l.row;
  rest : (k : ℕ) → k + 1 < l.number → slice_get l.row.items k ≡ Some (new_seat l.shared.table_id (k + 1) (g.V.Logged.base l.shared.key.opening.value));
}
