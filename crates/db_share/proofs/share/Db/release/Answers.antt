use Rattle.std.proofs.Common.{◌∙◌, refl, sym}
use Rattle.std.specs.Prelude.{true}
use Rattle.turn_cell.specs.Seats.{taken}
use Rattle.db_share.specs.Passes.{story}
use Rattle.db_share.proofs.Turns.{goes_on, steps_at}
use Rattle.db_share.proofs.Answered.{has_released, pin_in_turn, release_steps}
use Rattle.db_share.proofs.share.Db.release.Goals as goal

pub release-requires : goal.release-requires
release-requires g c =
    let e = c.enter-shared.ensures in
    (pin_in_turn c.args.self.now c.args.pass.now c.enter-shared.new.pass c.shared.inside.core c.args.pin c.requires.ready e.enters (c.shared.view_is ∙ e.core) c.requires.pin).live

pub leave-requires : goal.leave-requires
leave-requires g c =
    let e = c.enter-shared.ensures in record {
      turn = e.enters.turn;
      steps = steps_at c.enter-shared.new.pass.number c.args.pin.caller true true (story c.args.self.now (taken c.enter-shared.new.pass)) c.shared.inside.core c.release.new.self (c.requires.pin.mine ∙ sym e.enters.number) refl (c.shared.view_is ∙ e.core) (release_steps c.args.pin.caller c.shared.inside.core c.release.new.self c.args.pin refl c.release.ensures);
    }

pub returns : goal.returns
returns g c =
    let e = c.enter-shared.ensures in record {
      on = goes_on c.args.self.now c.args.pass.now c.enter-shared.new.pass c.leave.new.pass c.release.new.self e.enters c.leave.ensures;
      answer = has_released c.args.self.now c.args.pass.now c.enter-shared.new.pass c.leave.new.pass c.shared.inside.core c.release.new.self e.enters (c.shared.view_is ∙ e.core) c.leave.ensures c.args.pin c.requires.pin c.release.ensures;
    }
