use Rattle.std.proofs.Common.{ap, List, length, arith}
use Rattle.netlist_schema.specs.Types.{CellBody}
use Rattle.db_draft.specs.Layers.{over_of}
use Rattle.db_draft.proofs.Layers.{length_laid}
use Rattle.db_draft.proofs.draft.Draft.count.Goals as goal

pub returns-in-Some : goal.returns-in-Some
returns-in-Some c =
    let same = ap (λ (cs : List CellBody). length cs) c.in-Some.ensures.some.cells in
    let long = length_laid (over_of c.in-Some.layer.now) c.in-Some.shelf.now.cells in
    omega (arith, c.cell_count.ensures.value, c.count.ensures.value)
