use Rattle.netdb_outside.specs.Buffered.{Writes}
use Rattle.flat_writer.proofs.GivenLemmas.{given_ahead}
use Rattle.flat_writer.proofs.flat.put_ahead.Goals as goal

pub returns-clause-gives : goal.returns-clause-gives
returns-clause-gives g c =
    let lent = c.in-Some.ensures in
    given_ahead (Writes g.K.Sink.written g.K.Sink.faults c.args.out.now c.args.page.now c.put_item-has_room.new.out c.put_item-has_room.new.page)
    c.args.walk.now.design c.args.room c.args.walk.now.left c.skip.new.self.left lent.item c.put_item-has_room.result
    lent.first (c.skip.ensures.passed c.requires) ((rw c.design.ensures at c.put_item-has_room.ensures) lent.item lent.shown)
