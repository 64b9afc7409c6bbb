use Rattle.std.proofs.Common.{◌<◌, ◌≤◌, [], ◌∷◌, length, ap, ◌∙◌, arith}
use Rattle.uniquify_copies.proofs.InnerLemmas.{all_inners, inner_copied, inner_kept, left_more, set_long}
use Rattle.uniquify_copies.proofs.SeatLists.{seats_length}
use Rattle.uniquify_copies.specs.Seats.{seats}
use Rattle.uniquify_copies.proofs.change.add_inners.Goals as goal

pub loop-number-preserved : goal.loop-number-preserved
loop-number-preserved c =
    let ss = seats c.args.top c.args.spots.now in
    let long = seats_length ([] ∷ []) c.args.spots.now in
    let within : c.loop-number.number < length ss = omega (arith, c.loop-number-test.true, long) in
    record {
      long = ap length c.replace-made.ensures.put ∙ set_long c.loop-number.contents c.loop-number.number _ ∙ c.loop-number.invariant.long;
      left = left_more c.args.contents c.loop-number.contents c.replace-made.new.self c.loop-number.number c.loop-number.invariant.left c.replace-made.ensures.put;
      copied = λ f all. inner_copied f ss c.loop-number.number c.twin_of-twin.result c.cell_of-cell.result c.args.contents c.loop-number.contents c.replace-made.result within
          (c.twin_of-twin.ensures c.args.top) c.cell_of-cell.ensures all c.loop-number.invariant.left c.replace-made.ensures.was
          c.args.changes.now.items c.loop-number.changes.items c.add_inner.new.copied.items c.in_ok-add_inner.ensures.copied (c.loop-number.invariant.copied f all);
      kept = λ f all. inner_kept f ss c.loop-number.number c.twin_of-twin.result c.cell_of-cell.result c.args.contents c.loop-number.contents c.replace-made.result within
          (c.twin_of-twin.ensures c.args.top) c.cell_of-cell.ensures all c.loop-number.invariant.left c.replace-made.ensures.was
          c.loop-number.kept.items c.add_inner.new.kept.items c.in_ok-add_inner.ensures.kept (c.loop-number.invariant.kept f all);
    }

pub returns : goal.returns
returns c = λ f all.
    let ss = seats c.args.top c.args.spots.now in
    let long = seats_length ([] ∷ []) c.args.spots.now in
    let past : length ss ≤ c.loop-number.number = omega (arith, c.loop-number-test.false, long) in
    all_inners f ss c.loop-number.number c.args.changes.now.items c.loop-number.changes.items c.loop-number.kept.items c.append.new.self.items past
    (c.loop-number.invariant.copied f all) (c.loop-number.invariant.kept f all) c.in_ok-append.ensures.items
