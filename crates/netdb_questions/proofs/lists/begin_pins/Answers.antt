use Rattle.std.proofs.Common.{Err, Ok, subst}
use Rattle.netlist_schema.specs.Design.{Design}
use Rattle.netdb_questions.specs.Named.{IsNetNamed}
use Rattle.netdb_questions.proofs.AnswerLemmas.{pins_listed}
use Rattle.netdb_questions.proofs.lists.begin_pins.Goals as goal

pub returns-in-Ok : goal.returns-in-Ok
returns-in-Ok c =
    pins_listed c.args.ask.now c.args.text.now c.args.role c.args.name.now c.in-Ok.net c.pins_of_net.result
    (subst (λ (v : Design). IsNetNamed v c.args.text.now c.args.name.now (Ok c.in-Ok.net)) c.requires c.in-Ok.ensures) c.pins_of_net.ensures

pub returns-in-Err : goal.returns-in-Err
returns-in-Err c = subst (λ (v : Design). IsNetNamed v c.args.text.now c.args.name.now (Err c.in-Err.refusal)) c.requires c.in-Err.ensures
