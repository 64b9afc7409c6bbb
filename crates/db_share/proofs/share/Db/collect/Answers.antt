use Rattle.std.proofs.Common.{◌∙◌}
use Rattle.std.specs.Prelude.{is_ok}
use Rattle.turn_cell.specs.Seats.{taken}
use Rattle.db_share.specs.Passes.{story}
use Rattle.db_share.proofs.Turns.{goes_on, steps_at}
use Rattle.db_share.proofs.Answered.{collect_steps, has_collected}
use Rattle.db_share.proofs.share.Db.collect.Goals as goal

pub leave-requires : goal.leave-requires
leave-requires g c =
    let e = c.enter-shared.ensures in record {
      turn = e.enters.turn;
      steps = steps_at c.enter-shared.new.pass.number c.number.result c.is_ok.result (is_ok c.collect_into-collected.result) (story c.args.self.now (taken c.enter-shared.new.pass)) c.shared.inside.core c.collect_into-collected.new.self c.number.ensures c.is_ok.ensures.value (c.shared.view_is ∙ e.core) (collect_steps c.number.result c.shared.inside.core c.collect_into-collected.new.self c.collect_into-collected.result c.collect_into-collected.ensures);
    }

pub returns : goal.returns
returns g c =
    let e = c.enter-shared.ensures in record {
      on = goes_on c.args.self.now c.args.pass.now c.enter-shared.new.pass c.leave.new.pass c.collect_into-collected.new.self e.enters c.leave.ensures;
      answer = has_collected c.args.self.now c.args.pass.now c.enter-shared.new.pass c.leave.new.pass c.shared.inside.core c.collect_into-collected.new.self e.enters (c.shared.view_is ∙ e.core) c.leave.ensures c.number.result c.collect_into-collected.result c.number.ensures c.collect_into-collected.ensures;
    }
