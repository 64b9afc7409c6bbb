use Rattle.std.proofs.Common.{List, subst}
use Rattle.netlist_schema.specs.Types.{Inst}
use Rattle.used_spec.specs.Uses.{id_at, placed_in}
use Rattle.where_used.specs.Index.{HasAdded}
use Rattle.where_used.proofs.Adding.{cell_next}
use Rattle.where_used.proofs.build.add_library.Goals as goal

pub loop-slot-preserved : goal.loop-slot-preserved
loop-slot-preserved g c =
    let d = g.S.Shown.design c.args.design.now in
    let lib = c.args.lib in
    let slot = c.loop-slot.slot in
    cell_next d lib slot c.args.index.now.items c.loop-slot.index.items c.add_insts.new.index.items c.loop-slot.invariant
    (subst (λ (is : List Inst). HasAdded c.loop-slot.index.items c.add_insts.new.index.items (placed_in (id_at lib slot) is)) c.insts_at.ensures.value c.in_ok-add_insts.ensures)
