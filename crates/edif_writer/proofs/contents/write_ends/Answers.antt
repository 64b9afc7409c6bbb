use Rattle.std.proofs.Common.{◌≡◌, ◌∷◌, None, suc, map, get_or, arith, ap, sym, ◌∙◌}
use Rattle.std.proofs.lemmas.List.{take_all}
use Rattle.std.proofs.lemmas.Option.{get_or_from_slice_get, slice_get-get_or}
use Rattle.std.proofs.lemmas.Simd.{map-map}
use Rattle.edif_spelling_spec.specs.Tree.{Bare}
use Rattle.netlist_schema.specs.Types.{End}
use Rattle.edif_spec.specs.Canonical.{layout, end_tree}
use Rattle.edif_spec.specs.Nets.{Stretch}
use Rattle.edif_writer.specs.Joined.{stretch_of}
use Rattle.edif_writer.specs.Lines.{spaced}
use Rattle.edif_writer.proofs.FormTexts.{one_more}
use Rattle.netdb_outside.proofs.BufferedLemmas.{writes_then, writes_same}
use Rattle.edif_writer.proofs.contents.write_ends.Goals as goal

pub loop-end-preserved : goal.loop-end-preserved
loop-end-preserved g c level =
    let around = c.args.around.now in
    let ends = c.as_slice-end-items.result.now in
    let i = c.loop-end.end-index in
    let none : End = record { inst = None; port = 0; bit = 0 } in
    let end = get_or ends i none in
    let same : end ≡ get_or ends i end = sym (get_or_from_slice_get ends i end end (slice_get-get_or ends i none c.loop-end-test.true)) in
    let tree : End → Bare = λ e. end_tree (g.S.Shown.design around.design.now).libs around.own.now around.insts.now c.args.array (stretch_of c.args.array e) in
    writes_same (one_more (λ t. 32 ∷ layout (suc level) t) tree ends i end c.loop-end-test.true same)
    (writes_then (c.loop-end.invariant level) (c.write_end.ensures (suc level)))

pub returns : goal.returns
returns g c level =
    let around = c.args.around.now in
    let array = c.args.array in
    let tree : Stretch → Bare = end_tree (g.S.Shown.design around.design.now).libs around.own.now around.insts.now array in
    writes_same (ap (λ v. spaced level (map (λ (e : End). tree (stretch_of array e)) v)) (take_all c.loop-end.end-index c.as_slice-end-items.result.now (omega arith) ∙ c.as_slice-end-items.ensures)
    ∙ ap (spaced level) (sym (map-map tree (stretch_of array) c.args.ends.now))) (c.loop-end.invariant level)
