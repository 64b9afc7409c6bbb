use Rattle.std.proofs.Common.{Some, sym, ap, ◌∙◌}
use Rattle.edit_tx.specs.Facts.{PinFacts, TxFacts}
use Rattle.netdb_desk.specs.Seats.{with_seat}
use Rattle.netdb_desk.specs.declared.held.Held.TheVariants.{OnPin, InTx}
use Rattle.netdb_desk.proofs.Turning.{put_again, put_over}
use Rattle.netdb_desk.proofs.desk.Desk.begin.Goals as goal

pub returns-in-Ok : goal.returns-in-Ok
returns-in-Ok c = record {
  pin = c.in-Some.pin;
  held = c.in-Some.ensures.some.0;
  holds = put_over c.args.self.now c.take_pin.new.self c.put.new.self c.args.seat (InTx c.in-Ok.tx) c.in-Some.ensures.some.1 c.put.ensures
      ∙ ap (λ (t : TxFacts). with_seat c.args.self.now c.args.seat (InTx t)) c.in-Ok.ensures.ok;
}

pub returns-in-Err : goal.returns-in-Err
returns-in-Err c = (
  (c.in-Some.pin, c.in-Some.ensures.some.0),
  put_again c.args.self.now c.take_pin.new.self c.put-in-Err.new.self c.args.seat (OnPin c.in-Err.pin)
      (c.in-Some.ensures.some.0 ∙ ap (λ (p : PinFacts). Some (OnPin p)) (sym c.in-Err.ensures.err)) c.in-Some.ensures.some.1 c.put-in-Err.ensures,
)
