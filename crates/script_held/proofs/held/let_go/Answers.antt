use Rattle.std.proofs.Common.{sym, ◌∙◌}
use Rattle.script_held.proofs.Calls.{held_pin, let_go_none, let_go_some, stays}
use Rattle.script_held.proofs.held.let_go.Goals as goal

pub release-requires-clause-pin : goal.release-requires-clause-pin
release-requires-clause-pin g c = held_pin c.args.db.now c.args.pass.now c.args.held c.in-Some.pin (sym c.pin_held.ensures ∙ c.in-Some.is) c.requires.mine

pub returns-in-Some-clause-makes : goal.returns-in-Some-clause-makes
returns-in-Some-clause-makes g c =
    let_go_some c.args.db.now c.args.pass.now c.release.new.pass c.args.held c.in-Some.pin c.requires.ready (sym c.pin_held.ensures ∙ c.in-Some.is) c.release.ensures.answer

pub returns-in-None-clause-on : goal.returns-in-None-clause-on
returns-in-None-clause-on g c = stays c.args.db.now c.args.pass.now c.requires.ready

pub returns-in-None-clause-makes : goal.returns-in-None-clause-makes
returns-in-None-clause-makes g c = let_go_none c.args.db.now c.args.pass.now c.args.held c.requires.ready (sym c.pin_held.ensures ∙ c.in-None.is)
