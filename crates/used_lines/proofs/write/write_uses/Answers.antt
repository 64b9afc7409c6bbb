use Rattle.std.proofs.Common.{◌∷◌, ◌++◌, List, ℕ, ap, append-nil}
use Rattle.std.specs.Prelude.{codes}
use Rattle.std.specs.List.{flat_map}
use Rattle.netdb_outside.proofs.BufferedLemmas.{writes_then, writes_same, finished_well, finished_badly}
use Rattle.used_spec.specs.Lines.{cell_lines}
use Rattle.used_spec.specs.Uses.{all_cells}
use Rattle.used_lines.proofs.write.write_uses.Goals as goal

pub returns-clause-ok : goal.returns-clause-ok
returns-clause-ok g c =
    let cells = flat_map (cell_lines (g.S.Shown.design c.args.design.now)) (all_cells (g.S.Shown.design c.args.design.now)) in
    let given = writes_same (ap (λ (v : List ℕ). codes "uses" ++ 10 ∷ v) (append-nil cells)) (writes_then c.put.ensures (writes_then c.put_cells.ensures c.finish.ensures.written)) in
    finished_well c.finish.result given c.new-page.ensures c.finish.ensures.ok

pub returns-clause-err : goal.returns-clause-err
returns-clause-err g c =
    let cells = flat_map (cell_lines (g.S.Shown.design c.args.design.now)) (all_cells (g.S.Shown.design c.args.design.now)) in
    let given = writes_same (ap (λ (v : List ℕ). codes "uses" ++ 10 ∷ v) (append-nil cells)) (writes_then c.put.ensures (writes_then c.put_cells.ensures c.finish.ensures.written)) in
    finished_badly c.finish.result given c.new-page.ensures c.finish.ensures.err
