use Rattle.std.proofs.Common.{[], ◌∷◌, ◌++◌, ◌∙◌}
use Rattle.std.specs.Prelude.{codes}
use Rattle.std.specs.Fmt.{decimal}
use Rattle.flat_lines_spec.specs.Lines.{cell_text, lib_text}
use Rattle.netdb_outside.proofs.BufferedLemmas.{writes_then, writes_same}
use Rattle.used_lines.proofs.Parts.{head_parts}
use Rattle.used_lines.proofs.lines.put_head.Goals as goal

pub returns : goal.returns
returns g c =
    let d = g.S.Shown.design c.args.design.now in
    let cell = c.args.cell in
    let digits = c.as_bytes.ensures.value ∙ c.format.ensures.text in
    writes_same
    ((λ i. codes "cell " ++ (c.lib_name.ensures i ++ (codes " " ++ (c.cell_name.ensures i ++ (codes " uses " ++ (digits i ++ 10 ∷ [])))))) ∙ head_parts (lib_text d cell) (cell_text d cell) (decimal c.args.count))
    (writes_then c.put.ensures (writes_then c.put-2.ensures (writes_then c.put-3.ensures (writes_then c.put-4.ensures (writes_then c.put-5.ensures (writes_then c.put-6.ensures c.put-7.ensures))))))
