use Rattle.std.proofs.Common.{rules, arith, Some, ap}
use Rattle.turn_cell.proofs.Facts.{same_table, same_phase, held_is}
use Rattle.turn_cell.proofs.Calls.{draws_ticket}
use Rattle.turn_cell.proofs.turn.Turn.enter.Goals as goal

pub fetch_add-ticket-requires : goal.fetch_add-ticket-requires
fetch_add-ticket-requires g c = (
  same_table _ _ _ _ c.seat.view_is c.requires.own c.self.view_is,
  omega arith,
  draws_ticket g.V.Logged.base g.V.Logged.entries g.V.Logged.made_by _ _ _ _ c.seat.inside.seat.me.0 c.seat.inside.seat.me.1 _ c.seat.invariant.0 (same_phase _ _ _ c.seat.view_is c.requires.rest),
)

pub exchange-requires : goal.exchange-requires
exchange-requires g c = let turn = c.wait.ensures.turn in (
  search rules,
  (Some turn.0, held_is _ _ _ (ap (λ m. m.1) turn.2)),
)
