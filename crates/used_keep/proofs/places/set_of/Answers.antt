use Rattle.std.proofs.Common.{ap, get_or, sym, take, ◌∙◌}
use Rattle.std.specs.List.{list_any}
use Rattle.std.proofs.lemmas.List.{take_more}
use Rattle.netlist_schema.specs.Types.{CellId}
use Rattle.edit_rules_spec.specs.Paths.{same_cell}
use Rattle.used_keep.proofs.Picking.{set_next}
use Rattle.used_keep.proofs.places.set_of.Goals as goal

pub loop-cell-preserved : goal.loop-cell-preserved
loop-cell-preserved c = λ id.
    let i = c.loop-cell.cell-index in
    let cells = c.args.cells.now in
    let cell : CellId = get_or cells i (record { lib = record { 0 = 0 }; slot = 0 }) in
    set_next c.loop-cell.set c.insert.new.self (take i cells) cell c.loop-cell.invariant c.in_ok-insert.ensures.updates id
    ∙ ap (list_any (λ (k : CellId). same_cell k id)) (sym (take_more cells i (record { lib = record { 0 = 0 }; slot = 0 }) c.loop-cell-test.true))
