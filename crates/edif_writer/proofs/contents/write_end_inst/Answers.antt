use Rattle.std.proofs.Common.{◌∷◌, ◌++◌, [], ap, suc, sym}
use Rattle.edif_spec.specs.Canonical.{perhaps}
use Rattle.edif_writer.specs.Lines.{instance_ref_tree, spaced}
use Rattle.edif_writer.proofs.ContentsTexts.{end_inst_text}
use Rattle.netdb_outside.proofs.BufferedLemmas.{writes_same}
use Rattle.edif_writer.proofs.contents.write_end_inst.Goals as goal

pub returns-in-Some : goal.returns-in-Some
returns-in-Some g c level = writes_same (ap (λ v. v ++ 41 ∷ []) (end_inst_text level c.args.insts.now c.args.place c.in-Some.place c.in-Some.is)) (c.write_inst_ref.ensures (suc level))

pub returns-in-None : goal.returns-in-None
returns-in-None g c level = writes_same (ap (λ o. spaced level (perhaps (instance_ref_tree c.args.insts.now) o) ++ 41 ∷ []) (sym c.in-None.is)) c.put.ensures
