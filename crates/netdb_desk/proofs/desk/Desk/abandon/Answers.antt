use Rattle.std.proofs.Common.{ap, ◌∙◌}
use Rattle.edit_tx.specs.Facts.{PinFacts}
use Rattle.netdb_desk.specs.Seats.{with_seat}
use Rattle.netdb_desk.specs.declared.held.Held.TheVariants.{OnPin}
use Rattle.netdb_desk.proofs.Turning.{put_over}
use Rattle.netdb_desk.proofs.desk.Desk.abandon.Goals as goal

pub returns : goal.returns
returns c = record {
  tx = c.in-Some.tx;
  held = c.in-Some.ensures.some.0;
  holds = put_over c.args.self.now c.take_tx.new.self c.put.new.self c.args.seat (OnPin c.abandon.result) c.in-Some.ensures.some.1 c.put.ensures
      ∙ ap (λ (p : PinFacts). with_seat c.args.self.now c.args.seat (OnPin p)) c.abandon.ensures;
}
