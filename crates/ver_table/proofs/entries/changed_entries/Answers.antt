use Rattle.std.proofs.Common.{◌-◌, length, drop, length-drop, length-take, arith}
use Rattle.ver_table.specs.Entries.{pairs_of, with_all}
use Rattle.ver_table.proofs.Steps.{entry_step}
use Rattle.ver_table.proofs.entries.changed_entries.Goals as goal

pub loop-change-preserved : goal.loop-change-preserved
loop-change-preserved g c =
    let left = c.loop-change.left.now in
    let to = c.old_entry-old.result.end in (
      entry_step (with_all (pairs_of c.args.entries.now) (pairs_of c.args.changes.now)) c.loop-change.changed.items c.share.new.list.items c.push.new.self.items left c.args.changes.now c.change-item.result c.in_ok-shared.field-0
          c.loop-change.change-index c.old_entry-old.result.start to c.loop-change.invariant.0.0 c.loop-change.invariant.0.1 c.requires.rising c.loop-change-test.true c.change-item.is c.old_entry-old.ensures c.in_ok-share.ensures
          c.in_ok-shared.ensures c.in_ok-push.ensures.items,
      omega (arith, length-take (length left - to) (drop to left), length-drop to left, c.loop-change.invariant.1),
    )
