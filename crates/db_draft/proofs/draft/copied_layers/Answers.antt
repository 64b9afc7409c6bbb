use Rattle.std.proofs.Common.{rules}
use Rattle.db_version.proofs.Places.{got_item}
use Rattle.db_draft.proofs.Copying.{same_next}
use Rattle.db_draft.proofs.draft.copied_layers.Goals as goal

pub loop-layer-preserved : goal.loop-layer-preserved
loop-layer-preserved c =
    same_next c.args.layers.now c.loop-layer.layer-index c.layer-item.result c.in_ok-copy.field-0 c.loop-layer.made.items c.push.new.self.items (got_item c.args.layers.now c.loop-layer.layer-index c.layer-item.result (search rules) c.layer-item.is)
    c.loop-layer.invariant c.in_ok-copy.ensures c.in_ok-push.ensures.items
