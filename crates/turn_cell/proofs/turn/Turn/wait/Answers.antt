use Rattle.std.proofs.Common.{rules, arith, ◌∷◌, Some, sym, ap, ◌∙◌, subst}
use Rattle.turn_cell.specs.declared.board.Phase.TheVariants.{InTurn}
use Rattle.turn_cell.specs.Views.{IsWaiting, HasBase, number_of, seen_of, own_of}
use Rattle.turn_cell.specs.Seats.{AgreeWith}
use Rattle.turn_cell.specs.Steps.{with_phase}
use Rattle.turn_cell.proofs.Facts.{same_turn}
use Rattle.turn_cell.proofs.Calls.{looks_once}
use Rattle.turn_cell.proofs.turn.Turn.wait.Goals as goal

pub load-found-requires : goal.load-found-requires
load-found-requires g c = (
  same_turn _ _ _ (c.loop.invariant.0 ∙ c.requires.own) c.self.view_is,
  omega arith,
  looks_once g.V.Logged.base g.V.Logged.entries g.V.Logged.made_by _ _ _ _ c.loop.seat.me.0 c.loop.seat.me.1 c.args.ticket (subst (λ m. IsWaiting c.args.ticket m.0) (sym c.loop.invariant.2) c.requires.waits),
)

pub returns-then-found-ticket-clause-turn : goal.returns-then-found-ticket-clause-turn
returns-then-found-ticket-clause-turn g c =
    let found = (c.load-found.ensures.2 c.args.ticket (subst (λ m. IsWaiting c.args.ticket m.0) (sym c.loop.invariant.2) c.requires.waits)).1 (search rules) in (
      found.0,
      subst (λ m. HasBase (g.V.Logged.base found.0) m.0) c.loop.invariant.2 found.1,
      found.2 ∙ ap (λ m. (with_phase (InTurn c.args.ticket (g.V.Logged.entries found.0)) m.0, (0, Some found.0) ∷ m.1)) c.loop.invariant.2,
      subst (λ m. AgreeWith g.V.Logged.made_by (g.V.Logged.entries found.0) (number_of m.0) (seen_of m.0) (own_of m.0)) c.loop.invariant.2 found.3,
    )

pub loop-preserved : goal.loop-preserved
loop-preserved g c = (
  c.load-found.ensures.0 ∙ c.loop.invariant.0,
  c.load-found.ensures.1 ∙ c.loop.invariant.1,
  (c.load-found.ensures.2 c.args.ticket (subst (λ m. IsWaiting c.args.ticket m.0) (sym c.loop.invariant.2) c.requires.waits)).0 (search rules) ∙ c.loop.invariant.2,
)
