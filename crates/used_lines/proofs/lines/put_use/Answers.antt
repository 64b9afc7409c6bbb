use Rattle.std.proofs.Common.{[], ◌∷◌, ◌++◌, ◌∙◌}
use Rattle.std.specs.Prelude.{codes}
use Rattle.flat_lines_spec.specs.Lines.{cell_text, lib_text}
use Rattle.used_spec.specs.Lines.{inst_text}
use Rattle.netdb_outside.proofs.BufferedLemmas.{writes_then, writes_same}
use Rattle.used_lines.proofs.Parts.{use_parts}
use Rattle.used_lines.proofs.lines.put_use.Goals as goal

pub returns : goal.returns
returns g c =
    let d = g.S.Shown.design c.args.design.now in
    let at = c.args.at in
    writes_same
    ((λ i. codes " use " ++ (c.lib_name.ensures i ++ (codes " " ++ (c.cell_name.ensures i ++ (codes " " ++ (c.inst_name.ensures i ++ 10 ∷ [])))))) ∙ use_parts (lib_text d at.cell) (cell_text d at.cell) (inst_text d at))
    (writes_then c.put.ensures (writes_then c.put-2.ensures (writes_then c.put-3.ensures (writes_then c.put-4.ensures (writes_then c.put-5.ensures (writes_then c.put-6.ensures c.put-7.ensures))))))
