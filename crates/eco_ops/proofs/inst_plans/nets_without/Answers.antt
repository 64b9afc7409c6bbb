use Rattle.std.proofs.Common.{◌≡◌, arith, Some, slice_get, ap, ◌∙◌}
use Rattle.std.specs.Prelude.{slice_set}
use Rattle.edit_spec.specs.DropInst.{net_without_inst}
use Rattle.eco_ops.proofs.NetsTurned.{turned_get, turned_more, turned_whole}
use Rattle.eco_ops.proofs.inst_plans.nets_without.Goals as goal

pub put_without-requires : goal.put_without-requires
put_without-requires c =
    let there : slice_get c.args.nets.now c.loop-place.place ≡ Some c.at.result.now = c.at.ensures.there in
    ap (λ nets. slice_get nets c.loop-place.place) c.loop-place.invariant
    ∙ turned_get (net_without_inst c.args.inst) c.args.nets.now c.loop-place.place c.at.result.now there

pub loop-place-preserved : goal.loop-place-preserved
loop-place-preserved c =
    let f = net_without_inst c.args.inst in
    let there : slice_get c.args.nets.now c.loop-place.place ≡ Some c.at.result.now = c.at.ensures.there in
    c.in_ok-put_without.ensures
    ∙ ap (λ nets. slice_set nets c.loop-place.place (f c.at.result.now)) c.loop-place.invariant
    ∙ turned_more f c.args.nets.now c.loop-place.place c.at.result.now there

pub returns : goal.returns
returns c = c.loop-place.invariant ∙ turned_whole (net_without_inst c.args.inst) c.args.nets.now c.loop-place.place (omega arith)
