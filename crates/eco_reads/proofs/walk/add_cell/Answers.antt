use Rattle.eco_reads.proofs.Below.{goes_held, listed_again, listed_held, listed_more}
use Rattle.eco_reads.proofs.walk.add_cell.Goals as goal

pub returns-in_ok-push-in-Ok-true-clause-listed : goal.returns-in_ok-push-in-Ok-true-clause-listed
returns-in_ok-push-in-Ok-true-clause-listed c =
    listed_more c.args.seen.now.keys c.insert.new.self.keys c.args.order.now.items c.push.new.self.items c.args.id c.in-Ok-true.field-0 c.requires c.in-Ok-true.ensures.keys c.in-Ok-true.ensures.added c.in-Ok-true.field-0-test c.in_ok-push-in-Ok-true.ensures.items

pub returns-in-Ok-false-clause-listed : goal.returns-in-Ok-false-clause-listed
returns-in-Ok-false-clause-listed c =
    listed_again c.args.seen.now.keys c.insert.new.self.keys c.args.order.now.items c.args.id c.in-Ok-false.field-0 c.requires c.in-Ok-false.ensures.keys c.in-Ok-false.ensures.added c.in-Ok-false.field-0-test

pub returns-in-Ok-false-clause-grows : goal.returns-in-Ok-false-clause-grows
returns-in-Ok-false-clause-grows c =
    goes_held c.args.order.now.items c.args.id (listed_held c.args.seen.now.keys c.args.order.now.items c.args.id c.in-Ok-false.field-0 c.requires c.in-Ok-false.ensures.added c.in-Ok-false.field-0-test)
