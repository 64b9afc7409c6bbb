use Rattle.std.proofs.Common.{◌≡◌, ◌∙◌, Some, ap, sym, slice_get}
use Rattle.edif_writer.proofs.ContentsTexts.{closed_ref_text}
use Rattle.netdb_outside.proofs.BufferedLemmas.{writes_then, writes_same}
use Rattle.edif_writer.proofs.contents.write_inst_ref.Goals as goal

pub returns-in-Some : goal.returns-in-Some
returns-in-Some g c level =
    let there : slice_get c.args.insts.now c.args.place ≡ Some c.in-Some.inst.now = sym c.in-Some.ensures in
    writes_same (closed_ref_text level c.args.insts.now c.args.place c.deref.result.now (there ∙ ap Some (sym c.deref.ensures)))
    (writes_then c.put.ensures (writes_then c.put_ident.ensures c.put-in-Some.ensures))
