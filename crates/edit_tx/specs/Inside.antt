-- What the fields of a transaction stand for.
use Rattle.std.specs.Prelude.{◌≡◌}
use Rattle.edit_spec.specs.Step.{run}
use Rattle.edit_tx.specs.Facts.{TxFacts, IsTried}
use Rattle.edit_tx.specs.declared.tx.Tx.TheInside.{Inside}

abbrev pub facts_of : Inside → TxFacts
facts_of tx = record { pin = tx.pin; ops = tx.ops; replies = tx.replies; reads = tx.work.reads; written = tx.work.written }

-- the work is what the operations leave of the pinned version
pub record IsTx (tx : Inside) : Type 0 where
  pub tried : IsTried (facts_of tx)
  pub design : tx.work.design ≡ (run tx.pin.design tx.ops).design
