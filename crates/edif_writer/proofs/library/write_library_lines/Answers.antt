use Rattle.std.proofs.Common.{◌<◌, ◌≤◌, ap, map, length, arith}
use Rattle.std.proofs.lemmas.List.{take_all}
use Rattle.edif_spec.specs.Arranged.{arranged}
use Rattle.edif_spec.specs.Canonical.{library_tree}
use Rattle.edif_writer.specs.Lines.{lined}
use Rattle.edif_writer.proofs.Renumbered.{moved_length}
use Rattle.edif_writer.proofs.WholeTexts.{writes_line}
use Rattle.netdb_outside.proofs.BufferedLemmas.{writes_same}
use Rattle.edif_writer.proofs.library.write_library_lines.Goals as goal

pub loop-lib-preserved : goal.loop-lib-preserved
loop-lib-preserved g c =
    let d = g.S.Shown.design c.args.design.now in
    let n = moved_length d.libs in
    let libs = (arranged d).libs in
    let below : c.loop-lib.lib < length libs = omega (arith, n) in
    writes_line 1 (library_tree libs) libs c.loop-lib.lib below c.loop-lib.invariant c.write_library_line.ensures

pub returns : goal.returns
returns g c =
    let d = g.S.Shown.design c.args.design.now in
    let n = moved_length d.libs in
    let libs = (arranged d).libs in
    let past : length libs ≤ c.loop-lib.lib = omega (arith, n) in
    writes_same (ap (λ ls. lined 1 (map (library_tree libs) ls)) (take_all c.loop-lib.lib libs past)) c.loop-lib.invariant
