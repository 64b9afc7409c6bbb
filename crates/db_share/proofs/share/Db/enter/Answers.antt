use Rattle.std.proofs.Common.{subst}
use Rattle.db_core.specs.Story.{IsHistory}
use Rattle.db_share.proofs.Turns.{enters, took}
use Rattle.db_share.proofs.share.Db.enter.Goals as goal

pub returns : goal.returns
returns g c =
    let e = c.enter-shared.ensures in record {
      enters = enters c.args.self.now c.args.pass.now c.enter-shared.new.seat c.enter-shared.result c.requires e.base e.turn.0 e.turn.1 e.log e.same.0 e.same.1 e.same.2 (subst IsHistory c.shared.view_is c.history_is_legal.ensures.history);
      core = took c.args.self.now c.args.pass.now c.enter-shared.new.seat c.enter-shared.result c.requires e.base e.turn.1 e.same.0;
    }
