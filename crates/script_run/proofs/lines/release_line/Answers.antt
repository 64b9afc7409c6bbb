use Rattle.script_run.proofs.HeldLines.{release_told}
use Rattle.script_run.proofs.lines.release_line.Goals as goal

pub returns-clause-comes : goal.returns-clause-comes
returns-clause-comes g c =
    rw c.held_after.ensures (release_told c.args.db.now c.args.pass.now c.release.new.pass c.args.out.now.items c.say_released.new.out.items c.say_released.result c.args.pin c.requires c.release.ensures.answer c.say_released.ensures.ok)
