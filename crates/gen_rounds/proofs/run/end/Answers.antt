use Rattle.gen_rounds.proofs.Ends.{has_ended, held_is_live, last_is_live, one_left}
use Rattle.gen_rounds.proofs.run.end.Goals as goal

pub release-requires : goal.release-requires
release-requires c = last_is_live c.args.run.count c.args.run.core c.args.run.first c.args.run.last c.requires

pub release-requires-2 : goal.release-requires-2
release-requires-2 c =
    held_is_live c.args.run.count c.release.new.self c.args.run.core c.args.run.first c.args.run.last c.requires
    (one_left c.args.run.count c.args.run.core c.release.new.self c.args.run.first c.args.run.last c.requires c.release.ensures)

pub returns : goal.returns
returns c =
    has_ended c.args.run.count c.args.run.core c.release.new.self c.release-2.new.self c.args.run.first c.args.run.last c.requires c.release.ensures c.release-2.ensures c.history_is_legal.ensures.history.legal
