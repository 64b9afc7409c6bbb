use Rattle.std.proofs.Common.{Some, ap, sym, ◌∙◌}
use Rattle.edif_writer.proofs.ContentsTexts.{contents_line_text}
use Rattle.netdb_outside.proofs.BufferedLemmas.{writes_then, writes_same}
use Rattle.edif_writer.proofs.contents.write_contents_line.Goals as goal

pub returns-in-Some : goal.returns-in-Some
returns-in-Some g c = writes_same (contents_line_text (g.S.Shown.design c.args.design.now).libs c.args.own.now c.args.contents.now c.deref.result.now (c.in-Some.is ∙ ap Some (sym c.deref.ensures)))
    (writes_then c.put.ensures (writes_then c.write_inst_lines.ensures (writes_then (rw (c.deref-in-Some.ensures ∙ sym c.deref.ensures) at c.write_net_lines.ensures) c.put-in-Some.ensures)))
