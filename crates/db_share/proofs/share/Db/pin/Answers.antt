use Rattle.std.proofs.Common.{◌∙◌}
use Rattle.std.specs.Prelude.{is_ok}
use Rattle.turn_cell.specs.Seats.{taken}
use Rattle.db_share.specs.Passes.{story}
use Rattle.db_share.proofs.Turns.{goes_on, steps_at}
use Rattle.db_share.proofs.Answered.{has_pinned, pin_steps}
use Rattle.db_share.proofs.share.Db.pin.Goals as goal

pub leave-requires : goal.leave-requires
leave-requires g c =
    let e = c.enter-shared.ensures in record {
      turn = e.enters.turn;
      steps = steps_at c.enter-shared.new.pass.number c.number.result c.is_ok.result (is_ok c.pin-pinned.result) (story c.args.self.now (taken c.enter-shared.new.pass)) c.shared.inside.core c.pin-pinned.new.self c.number.ensures c.is_ok.ensures.value (c.shared.view_is ∙ e.core) (pin_steps c.number.result c.shared.inside.core c.pin-pinned.new.self c.pin-pinned.result c.pin-pinned.ensures);
    }

pub returns : goal.returns
returns g c =
    let e = c.enter-shared.ensures in record {
      on = goes_on c.args.self.now c.args.pass.now c.enter-shared.new.pass c.leave.new.pass c.pin-pinned.new.self e.enters c.leave.ensures;
      answer = has_pinned c.args.self.now c.args.pass.now c.enter-shared.new.pass c.leave.new.pass c.shared.inside.core c.pin-pinned.new.self e.enters (c.shared.view_is ∙ e.core) c.leave.ensures c.number.result c.pin-pinned.result c.number.ensures c.pin-pinned.ensures;
    }
