use Rattle.std.proofs.Common.{◌∙◌, refl, sym}
use Rattle.turn_cell.specs.Seats.{taken}
use Rattle.db_share.specs.Passes.{story}
use Rattle.db_share.specs.Inside.{is_commit_event}
use Rattle.db_share.proofs.Turns.{goes_on, steps_at}
use Rattle.db_share.proofs.Answered.{commit_steps, has_committed, pin_in_turn}
use Rattle.db_share.proofs.share.Db.commit.Goals as goal

pub commit_into-committed-requires : goal.commit_into-committed-requires
commit_into-committed-requires g c =
    let e = c.enter-shared.ensures in
    pin_in_turn c.args.self.now c.args.pass.now c.enter-shared.new.pass c.shared.inside.core c.args.tx.pin c.requires.ready e.enters (c.shared.view_is ∙ e.core) c.requires.pin

pub leave-requires : goal.leave-requires
leave-requires g c =
    let e = c.enter-shared.ensures in record {
      turn = e.enters.turn;
      steps = steps_at c.enter-shared.new.pass.number c.args.tx.pin.caller c.commit_adds-added.result (is_commit_event c.commit_into-committed.result) (story c.args.self.now (taken c.enter-shared.new.pass)) c.shared.inside.core c.commit_into-committed.new.self (c.requires.pin.mine ∙ sym e.enters.number) c.commit_adds-added.ensures (c.shared.view_is ∙ e.core) (commit_steps c.args.tx.pin.caller c.shared.inside.core c.commit_into-committed.new.self c.args.tx c.commit_into-committed.result refl c.commit_into-committed.ensures);
    }

pub returns : goal.returns
returns g c =
    let e = c.enter-shared.ensures in record {
      on = goes_on c.args.self.now c.args.pass.now c.enter-shared.new.pass c.leave.new.pass c.commit_into-committed.new.self e.enters c.leave.ensures;
      answer = has_committed c.args.self.now c.args.pass.now c.enter-shared.new.pass c.leave.new.pass c.shared.inside.core c.commit_into-committed.new.self e.enters (c.shared.view_is ∙ e.core) c.leave.ensures c.args.tx c.commit_into-committed.result c.requires.ready c.requires.pin c.commit_into-committed.ensures;
    }
