use Rattle.std.proofs.Common.{subst}
use Rattle.netdb_outside.specs.Buffered.{Writes}
use Rattle.flat_report.proofs.TextLemmas.{line_is}
use Rattle.flat_writer.proofs.flat.put_item.Goals as goal

pub returns : goal.returns
returns g c = λ shown is. (
  λ full. absurd (cc (c.if-is_full.ensures.1 full)),
  subst (λ text. Writes g.K.Sink.written g.K.Sink.faults c.args.out.now c.args.page.now c.put_text.new.out c.put_text.new.self text)
      (line_is (g.S.Shown.design c.args.design.now) shown c.args.item is) c.put_text.ensures,
)
