use Rattle.std.proofs.Common.{rules, arith}
use Rattle.db_version.proofs.Places.{got_item}
use Rattle.db_version.proofs.Setting.{more_pair}
use Rattle.db_version.proofs.shelf.entries_from.Goals as goal

pub loop-body-preserved : goal.loop-body-preserved
loop-body-preserved c = record {
  pairs = more_pair c.args.first c.args.bodies.now c.loop-body.body-index c.body-item.result c.loop-body.entries.items c.push.new.self.items _ (got_item c.args.bodies.now c.loop-body.body-index c.body-item.result (search rules) c.body-item.is)
      c.loop-body.invariant.pairs c.loop-body.invariant.slot c.in_ok-try_clone.ensures c.in_ok-push.ensures.items;
  slot = omega arith;
}
