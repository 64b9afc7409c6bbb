use Rattle.std.proofs.Common.{refl}
use Rattle.db_draft.proofs.Drafting.{item_there}
use Rattle.db_draft.proofs.Placing.{item_holds}
use Rattle.db_draft.proofs.place.try_in.Goals as goal

pub try_change-requires : goal.try_change-requires
try_change-requires c = item_holds c.args.layers.now.items c.args.lib.0 c.index_mut.result.now _ c.requires c.index_mut.ensures.value

pub returns : goal.returns
returns c = record { before = c.index_mut.result.now; after = c.try_change.new.self; found = item_there c.args.layers.now.items c.args.lib.0 c.index_mut.result.now _ c.requires c.index_mut.ensures.value; set = refl; changed = c.try_change.ensures }
