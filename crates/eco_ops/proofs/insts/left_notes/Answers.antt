use Rattle.std.proofs.Common.{sym, ap, ◌∙◌, arith, map}
use Rattle.eco_ops.proofs.DropOps.{left_all, left_next}
use Rattle.eco_ops.proofs.insts.left_notes.Goals as goal

pub loop-place-preserved : goal.loop-place-preserved
loop-place-preserved c = λ keep told.
    left_next keep c.as_slice-items.result.now c.args.others.now c.loop-place.place c.index-items-place.result c.loop-place.left.items c.add_left.new.left.items told (omega arith) c.index-items-place.is (c.loop-place.invariant keep told) c.in_ok-add_left.ensures

pub returns : goal.returns
returns c = λ keep told.
    left_all keep c.as_slice-items.result.now c.args.notes.now c.loop-place.place c.loop-place.left.items c.as_slice-items.ensures (omega arith) (c.loop-place.invariant keep (told ∙ ap (map keep) (sym c.as_slice-items.ensures)))
