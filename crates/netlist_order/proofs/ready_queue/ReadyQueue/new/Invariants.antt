use Rattle.std.proofs.Common.{◌≡◌, ℕ, [], false, length, slice_get}
use Rattle.std.specs.Prelude.{unwrap_or}
use Rattle.std.specs.Option.{option_map_or}
use Rattle.netlist_order.proofs.ready_queue.ReadyQueue.new.Given as goal

abbrev pub invariant-loop : goal.invariant-loop
invariant-loop l = (length l.written.items ≡ l.counter) × (length l.waiting.items ≡ l.counter)
    × ((slot : ℕ) → unwrap_or (slice_get l.written.items slot) false ≡ false)
    × ((child : ℕ) → option_map_or (λ cells. cells.items) (slice_get l.waiting.items child) [] ≡ [])
