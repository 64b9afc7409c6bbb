use Rattle.script_run.proofs.HeldLines.{off_release_told, off_walk_told}
use Rattle.script_run.proofs.places.off_line.Goals as goal

pub returns-in-Walk-clause-comes : goal.returns-in-Walk-clause-comes
returns-in-Walk-clause-comes g c =
    rw (c.held_after.ensures, c.in-Walk.is) (off_walk_told c.args.db.now c.args.pass.now c.args.out.now.items c.say_no_pin.new.out.items c.say_no_pin.result c.in-Walk.limit c.requires.stands c.say_no_pin.ensures.ok)

pub returns-in-Release-clause-comes : goal.returns-in-Release-clause-comes
returns-in-Release-clause-comes g c =
    rw (c.held_after-in-Release.ensures, c.in-Release.is) (off_release_told c.args.db.now c.args.pass.now c.args.out.now.items c.say_no_pin-in-Release.new.out.items c.say_no_pin-in-Release.result c.requires.stands c.say_no_pin-in-Release.ensures.ok)
