use Rattle.std.proofs.Common.{◌≡◌, ◌++◌, ap}
use Rattle.edif_spec.specs.Canonical.{layout, new_line, cell_tree}
use Rattle.edif_writer.proofs.Places.{valid_placed}
use Rattle.netdb_outside.proofs.BufferedLemmas.{writes_then, writes_same}
use Rattle.edif_writer.proofs.library.write_cell_line.Goals as goal

pub write_cell-requires : goal.write_cell-requires
write_cell-requires g c = valid_placed (g.S.Shown.design c.args.design.now) c.args.id c.in-Some.body.now c.in-Some.ensures.valid

pub returns-in-Some : goal.returns-in-Some
returns-in-Some g c body found =
    let libs = (g.S.Shown.design c.args.design.now).libs in
    let same : c.in-Some.body.now ≡ body = cc (c.in-Some.ensures.value, found) in
    writes_same (ap (λ b. new_line 2 ++ layout 3 (cell_tree libs b)) same) (writes_then c.put.ensures c.write_cell.ensures)
