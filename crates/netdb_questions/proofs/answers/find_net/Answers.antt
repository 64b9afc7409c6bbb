use Rattle.std.proofs.Common.{Err, Ok, subst}
use Rattle.netlist_schema.specs.Design.{Design}
use Rattle.ask_spec.specs.Nets.{net_of}
use Rattle.netdb_questions.specs.Named.{IsBitNamed}
use Rattle.netdb_questions.proofs.AnswerLemmas.{net_answered, net_refused}
use Rattle.netdb_questions.proofs.answers.find_net.Goals as goal

pub returns-in-Ok : goal.returns-in-Ok
returns-in-Ok c =
    net_answered c.args.ask.now c.args.text.now net_of c.args.name.now c.args.bit c.in-Ok.at c.net_there.result
    (subst (λ (v : Design). IsBitNamed v c.args.text.now c.args.name.now c.args.bit (Ok c.in-Ok.at)) c.requires c.in-Ok.ensures) c.net_there.ensures

pub returns-in-Err : goal.returns-in-Err
returns-in-Err c =
    net_refused c.args.ask.now c.args.text.now net_of c.args.name.now c.args.bit c.in-Err.refusal
    (subst (λ (v : Design). IsBitNamed v c.args.text.now c.args.name.now c.args.bit (Err c.in-Err.refusal)) c.requires c.in-Err.ensures)
