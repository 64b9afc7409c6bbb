use Rattle.used_keep.proofs.Picking.{place_found, place_missed}
use Rattle.used_keep.proofs.places.place_in.Goals as goal

pub returns-in-Ok : goal.returns-in-Ok
returns-in-Ok c = place_found c.args.slots.now c.args.slot c.in-Ok.place c.requires.rising c.in-Ok.ensures.position

pub returns-in-Err : goal.returns-in-Err
returns-in-Err c = place_missed c.args.slots.now c.args.slot c.in-Err.field-0 c.requires.rising c.in-Err.ensures.position
