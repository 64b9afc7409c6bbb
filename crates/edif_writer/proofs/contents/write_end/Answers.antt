use Rattle.std.proofs.Common.{◌∷◌, ap, suc}
use Rattle.edif_writer.proofs.ContentsTexts.{joined_text}
use Rattle.netdb_outside.proofs.BufferedLemmas.{writes_then, writes_same}
use Rattle.edif_writer.proofs.contents.write_end.Goals as goal

pub returns : goal.returns
returns g c level = let around = c.args.around.now in
    writes_same (ap (λ v. 32 ∷ v) (joined_text level (g.S.Shown.design around.design.now).libs around.own.now around.insts.now c.args.array c.args.end.now))
    (writes_then c.put.ensures (writes_then (c.write_port_of_end.ensures (suc level)) (c.write_end_inst.ensures level)))
