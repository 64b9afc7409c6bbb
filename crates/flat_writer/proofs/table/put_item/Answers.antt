use Rattle.std.proofs.Common.{subst}
use Rattle.netdb_outside.specs.Buffered.{Writes}
use Rattle.csv_report.proofs.TextLemmas.{row_is}
use Rattle.flat_writer.proofs.table.put_item.Goals as goal

pub returns : goal.returns
returns g c = λ shown is.
    subst (λ text. Writes g.K.Sink.written g.K.Sink.faults c.args.out.now c.args.page.now c.put_text.new.out c.put_text.new.self text)
    (row_is (g.S.Shown.design c.args.design.now) shown c.args.item c.design_is_valid.ensures is) c.put_text.ensures
