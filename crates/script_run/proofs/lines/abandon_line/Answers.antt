use Rattle.std.proofs.Common.{sym, subst}
use Rattle.edit_tx.specs.Facts.{PinFacts}
use Rattle.db_share.specs.Passes.{HasPin}
use Rattle.script_run.proofs.HeldLines.{abandon_told}
use Rattle.script_run.proofs.lines.abandon_line.Goals as goal

pub release-requires-clause-pin : goal.release-requires-clause-pin
release-requires-clause-pin g c = subst (λ (p : PinFacts). HasPin c.args.db.now c.args.pass.now p) (sym c.abandon.ensures) c.requires.mine

pub returns-clause-comes : goal.returns-clause-comes
returns-clause-comes g c =
    rw c.held_after.ensures (abandon_told c.args.db.now c.args.pass.now c.release.new.pass c.args.out.now.items c.say_abandoned.new.out.items c.say_abandoned.result c.args.block c.abandon.result c.abandon.ensures c.requires c.release.ensures.answer c.say_abandoned.ensures.ok)
