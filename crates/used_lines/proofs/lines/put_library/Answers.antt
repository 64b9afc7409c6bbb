use Rattle.std.proofs.Common.{◌<◌, List, ◌++◌, arith, ap, ◌∙◌}
use Rattle.std.specs.List.{flat_map}
use Rattle.netdb_outside.proofs.BufferedLemmas.{writes_then, writes_same}
use Rattle.used_spec.specs.Lines.{cell_lines}
use Rattle.used_spec.specs.Uses.{count_in, id_at, ids_of, users_at}
use Rattle.used_spec.specs.declared.used_at.UsedAt.{UsedAt}
use Rattle.used_lines.specs.Told.{told}
use Rattle.used_lines.proofs.Telling.{one_more_cell, told_there}
use Rattle.used_lines.proofs.lines.put_library.Goals as goal

pub loop-slot-preserved : goal.loop-slot-preserved
loop-slot-preserved g c =
    let d = g.S.Shown.design c.args.design.now in
    let lib = c.args.lib in
    let slot = c.loop-slot.slot in
    let count = c.cell_count-slot-end.ensures.value in
    let within : slot < count_in d lib = omega (arith, count, c.loop-slot-test.true) in
    let lines = ap (λ (index : List (List (List UsedAt))). told d (id_at lib slot) (users_at index (id_at lib slot))) c.requires ∙ told_there d lib slot within in
    writes_same (ap (λ v. flat_map (cell_lines d) (ids_of lib slot) ++ v) lines ∙ one_more_cell d lib slot) (writes_then c.loop-slot.invariant c.put_cell.ensures)
