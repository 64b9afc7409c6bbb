use Rattle.std.proofs.Common.{◌∙◌}
use Rattle.turn_cell.specs.Seats.{taken}
use Rattle.db_share.specs.Passes.{story}
use Rattle.db_share.specs.Inside.{is_pin_at_event}
use Rattle.db_share.proofs.Turns.{goes_on, steps_at}
use Rattle.db_share.proofs.Answered.{has_pinned_at, pin_at_steps}
use Rattle.db_share.proofs.share.Db.pin_at.Goals as goal

pub leave-requires : goal.leave-requires
leave-requires g c =
    let e = c.enter-shared.ensures in record {
      turn = e.enters.turn;
      steps = steps_at c.enter-shared.new.pass.number c.number.result c.pin_at_adds-added.result (is_pin_at_event c.pin_at-pinned.result) (story c.args.self.now (taken c.enter-shared.new.pass)) c.shared.inside.core c.pin_at-pinned.new.self c.number.ensures c.pin_at_adds-added.ensures (c.shared.view_is ∙ e.core) (pin_at_steps c.number.result c.shared.inside.core c.pin_at-pinned.new.self c.args.version c.pin_at-pinned.result c.pin_at-pinned.ensures);
    }

pub returns : goal.returns
returns g c =
    let e = c.enter-shared.ensures in record {
      on = goes_on c.args.self.now c.args.pass.now c.enter-shared.new.pass c.leave.new.pass c.pin_at-pinned.new.self e.enters c.leave.ensures;
      answer = has_pinned_at c.args.self.now c.args.pass.now c.enter-shared.new.pass c.leave.new.pass c.shared.inside.core c.pin_at-pinned.new.self e.enters (c.shared.view_is ∙ e.core) c.leave.ensures c.number.result c.args.version c.pin_at-pinned.result c.number.ensures c.pin_at-pinned.ensures;
    }
