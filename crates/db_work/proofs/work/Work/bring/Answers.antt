use Rattle.std.proofs.Common.{rules}
use Rattle.db_work.proofs.Becoming.{stays}
use Rattle.db_draft.proofs.Drafting.{on_ok}
use Rattle.db_work.proofs.work.Work.bring.Goals as goal

pub returns-then-is_part_of_new : goal.returns-then-is_part_of_new
returns-then-is_part_of_new c = λ target near met. stays c.args.self.now target c.args.moved.now.design c.args.object near (c.is_part_of_new.ensures (search rules) target c.args.moved.now.design met)

pub bring_old-requires-clause-near : goal.bring_old-requires-clause-near
bring_old-requires-clause-near c = (c.requires.near.0, c.requires.near.1)

pub returns : goal.returns
returns c = on_ok c.bring_old.result _ _ (λ brings target near met. brings target near) c.bring_old.ensures
