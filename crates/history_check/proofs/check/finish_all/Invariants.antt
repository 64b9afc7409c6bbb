use Rattle.std.proofs.Common.{◌≡◌, ◌<◌, ◌++◌, [], List, ℕ, length}
use Rattle.std.specs.Prelude.{slice_index_or, vec_len}
use Rattle.script_run_spec.specs.Scripts.{all_steps}
use Rattle.history_turns.specs.declared.seats.Seat.{Seat}
use Rattle.history_check.proofs.Seating.{Finishes}
use Rattle.history_check.proofs.check.finish_all.Given as goal

-- the texts so far are those of the scripts so far
abbrev pub invariant-loop-seat : goal.invariant-loop-seat
invariant-loop-seat l = record {
  rest : l.fn.seats.items ≡ l.yielded ++ l.seat-iterator.rest.items;
  count : vec_len l.texts ≡ length l.yielded;
  done : (k : ℕ) (d : Seat) (t : List ℕ) → k < length l.yielded → Finishes l.events (slice_index_or (all_steps l.scripts) k []) (slice_index_or l.yielded k d) (slice_index_or l.texts.items k t);
}
