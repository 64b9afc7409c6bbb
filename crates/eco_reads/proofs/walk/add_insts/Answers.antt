use Rattle.std.proofs.Common.{◌≡◌, ◌+◌, arith, get_or, subst, sym, List, map, take}
use Rattle.std.specs.List.{Contains}
use Rattle.netlist_schema.specs.Types.{Inst}
use Rattle.eco_reads.proofs.Within.{map_one_more}
use Rattle.eco_reads.specs.Walk.{GoesOn}
use Rattle.eco_reads.proofs.Below.{goes_more, take_whole}
use Rattle.eco_reads.proofs.walk.add_insts.Goals as goal

pub loop-place-preserved : goal.loop-place-preserved
loop-place-preserved c =
    let insts = c.args.insts.now in
    let place = c.loop-place.place in
    record {
      listed = c.in_ok-add_cell.ensures.listed;
      grows = goes_more c.args.order.now.items c.loop-place.order.items c.add_cell.new.order.items (take (place + 1) insts) (map (λ (inst : Inst). inst.of) (take place insts)) c.deref.result.now.of
          (map_one_more (λ (inst : Inst). inst.of) insts place c.deref.result.now (omega arith) (subst (λ (inst : Inst). inst ≡ get_or insts place inst) (sym c.deref.ensures) c.at.ensures.is))
          c.loop-place.invariant.grows c.in_ok-add_cell.ensures.grows;
    }

pub returns-clause-grows : goal.returns-clause-grows
returns-clause-grows c =
    subst (λ (insts : List Inst). GoesOn c.args.order.now.items c.loop-place.order.items (Contains (map (λ (inst : Inst). inst.of) insts)))
    (take_whole c.args.insts.now c.loop-place.place (omega arith))
    c.loop-place.invariant.grows
