use Rattle.std.proofs.Common.{rules, arith, slice_get, ap, ◌∙◌}
use Rattle.turn_cell.specs.Seats.{new_seat}
use Rattle.turn_cell.specs.Steps.{with_one_made, next_seat}
use Rattle.turn_cell.proofs.Facts.{got_snoc, new_seat_is}
use Rattle.turn_cell.proofs.Calls.{splits_seat}
use Rattle.turn_cell.proofs.turn.deal.Goals as goal

pub split_seat-seat-requires : goal.split_seat-seat-requires
split_seat-seat-requires g c = let count = c.requires.count in (
  c.loop-number.invariant.own,
  c.requires.table.1,
  splits_seat g.V.Logged.base g.V.Logged.entries g.V.Logged.made_by _ _ _ c.loop-number.first.me c.loop-number.number _ c.loop-number.invariant.first (omega arith),
)

pub loop-number-preserved : goal.loop-number-preserved
loop-number-preserved g c = let inv = c.loop-number.invariant in record {
  own = c.split_seat-seat.ensures.0 ∙ inv.own;
  first = c.split_seat-seat.ensures.2 ∙ ap (λ m. (with_one_made m.0, m.1)) inv.first;
  long = search rules;
  room = search rules;
  rest = λ k less. ap (λ xs. slice_get xs k) c.push_reserved.ensures.items
      ∙ got_snoc c.loop-number.row.items (λ i. new_seat c.args.shared.now.table_id i (g.V.Logged.base c.args.shared.now.key.opening.value)) _ c.loop-number.number (search rules) inv.rest
      (new_seat_is _ _ _ _ _ (c.split_seat-seat.ensures.3 ∙ inv.own) (ap (λ m. m.0) c.split_seat-seat.ensures.4 ∙ ap (λ m. next_seat m.0) inv.first)) k less;
}
