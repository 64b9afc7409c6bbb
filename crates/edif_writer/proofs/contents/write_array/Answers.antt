use Rattle.std.proofs.Common.{◌≡◌, [], Some, suc, refl, ap, ◌∙◌}
use Rattle.std.specs.Prelude.{unwrap_or}
use Rattle.netlist_bus_spec.specs.Runs.{array_name, stem}
use Rattle.edif_spec.specs.Canonical.{layout, name_tree}
use Rattle.edif_writer.proofs.SmallTexts.{array_text}
use Rattle.netdb_outside.proofs.BufferedLemmas.{writes_then, writes_same}
use Rattle.edif_writer.proofs.contents.write_array.Goals as goal

pub returns : goal.returns
returns g c level =
    let id = stem c.args.name.now.id in
    let text = stem (unwrap_or c.args.name.now.shown []) in
    let same : array_name c.stem.result.now c.shown_stem.result.now ≡ array_name id text =
    ap (λ d. array_name d c.shown_stem.result.now) (c.stem.ensures ∙ ap stem c.as_slice.ensures.value) ∙ ap (array_name id) c.shown_stem.ensures in
    writes_same (array_text level (array_name id text) (Some c.args.width) c.args.width refl)
    (writes_then c.put.ensures (writes_then (writes_same (ap (λ n. layout (suc level) (name_tree n)) same) (c.write_array_name.ensures (suc level)))
    (writes_then c.put-2.ensures (writes_then c.put_number.ensures c.put-3.ensures))))
