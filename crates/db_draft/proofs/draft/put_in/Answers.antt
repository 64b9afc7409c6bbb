use Rattle.std.proofs.Common.{refl}
use Rattle.db_draft.proofs.Drafting.{item_there, on_ok, on_err}
use Rattle.db_draft.proofs.draft.put_in.Goals as goal

pub returns-clause-ok : goal.returns-clause-ok
returns-clause-ok c = on_ok c.put.result _ _ (λ is. record { before = c.index_mut.result.now; after = c.put.new.self; found = item_there c.args.layers.now.items c.args.lib.0 c.index_mut.result.now _ c.requires c.index_mut.ensures.value; set = refl; changed = is }) c.put.ensures.ok

pub returns-clause-err : goal.returns-clause-err
returns-clause-err c = on_err c.put.result _ _ (λ is. record { before = c.index_mut.result.now; after = c.put.new.self; found = item_there c.args.layers.now.items c.args.lib.0 c.index_mut.result.now _ c.requires c.index_mut.ensures.value; set = refl; changed = is }) c.put.ensures.err
