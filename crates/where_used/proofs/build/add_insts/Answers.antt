use Rattle.std.proofs.Common.{◌≡◌, ◌+◌, arith, List, get_or, length, refl, take, sym, subst}
use Rattle.std.proofs.lemmas.Option.{slice_get_read}
use Rattle.netlist_schema.specs.Types.{Inst}
use Rattle.used_spec.specs.Uses.{placed_in}
use Rattle.used_spec.specs.declared.used_at.UsedAt.{UsedAt}
use Rattle.where_used.specs.Index.{HasAdded}
use Rattle.where_used.proofs.Adding.{inst_next, insts_done}
use Rattle.where_used.proofs.build.add_insts.Goals as goal

pub loop-place-preserved : goal.loop-place-preserved
loop-place-preserved c =
    let insts = c.args.insts.now in
    let place = c.loop-place.place in
    let inst = c.deref.result.now in
    let found = subst (λ (i : Inst). i ≡ get_or insts place i) (sym c.deref.ensures) c.at.ensures.is in
    subst (λ (new : List (List (List UsedAt))). HasAdded c.args.index.now.items new (take (place + 1) (placed_in c.args.cell insts))) (sym c.in_ok-add_use.ensures)
    (inst_next c.args.cell insts place inst c.args.index.now.items c.loop-place.index.items (slice_get_read insts (length insts) place inst refl (omega arith) found) c.loop-place.invariant)

pub returns : goal.returns
returns c = insts_done c.args.cell c.args.insts.now c.loop-place.place c.args.index.now.items c.loop-place.index.items (omega arith) c.loop-place.invariant
