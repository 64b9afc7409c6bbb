use Rattle.script_run.proofs.HeldLines.{walk_told}
use Rattle.script_run.proofs.Standing.{can_walk}
use Rattle.script_run.proofs.places.pinned_line.Goals as goal

pub show-said-requires : goal.show-said-requires
show-said-requires g c = can_walk c.args.along.now.db.now c.args.pass.now c.args.pin c.args.step.now c.in-Walk.limit c.requires.stands c.in-Walk.is c.requires.top

pub returns-in-Walk-clause-comes : goal.returns-in-Walk-clause-comes
returns-in-Walk-clause-comes g c =
    rw (c.held_after.ensures, c.in-Walk.is) (walk_told c.args.along.now.db.now c.args.pass.now c.args.out.now.items c.show-said.new.out.items c.show-said.result c.args.pin c.in-Walk.limit c.requires.stands c.show-said.ensures)
