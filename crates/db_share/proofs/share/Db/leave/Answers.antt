use Rattle.std.proofs.Common.{subst}
use Rattle.db_core.specs.Story.{IsHistory}
use Rattle.db_share.proofs.Turns.{leaves}
use Rattle.db_share.proofs.share.Db.leave.Goals as goal

pub returns : goal.returns
returns c =
    let l = c.leave.ensures in
    leaves c.args.self.now c.args.pass.now c.leave.new.seat c.args.shared c.args.added c.requires.turn c.requires.steps (subst IsHistory c.shared.view_is c.history_is_legal.ensures.history) l.rest.0 l.rest.1 l.seen.0 l.seen.1 l.own
