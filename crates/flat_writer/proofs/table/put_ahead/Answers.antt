use Rattle.netdb_outside.specs.Buffered.{Writes}
use Rattle.flat_writer.proofs.RowLemmas.{given_ahead}
use Rattle.flat_writer.proofs.table.put_ahead.Goals as goal

pub returns-clause-gives : goal.returns-clause-gives
returns-clause-gives g c =
    let lent = c.in-Some.ensures in
    given_ahead (Writes g.K.Sink.written g.K.Sink.faults c.args.out.now c.args.page.now c.put_item.new.out c.put_item.new.page)
    c.args.walk.now.design c.args.walk.now.left c.skip.new.self.left lent.item
    lent.first (c.skip.ensures.passed c.requires) ((rw c.design.ensures at c.put_item.ensures) lent.item lent.shown)
