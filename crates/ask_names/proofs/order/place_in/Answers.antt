use Rattle.std.proofs.Common.{sym, ◌∙◌}
use Rattle.ask_names.proofs.order.place_in.Goals as goal

pub returns-in-Ok : goal.returns-in-Ok
returns-in-Ok g c = c.place_at.ensures ∙ c.in-Ok.ensures

pub returns-in-Err : goal.returns-in-Err
returns-in-Err g c = sym c.in-Err.ensures
