use Rattle.std.proofs.Common.{Err, Ok, subst}
use Rattle.netlist_schema.specs.Design.{Design}
use Rattle.netdb_questions.specs.Named.{IsNetNamed}
use Rattle.netdb_questions.proofs.AnswerLemmas.{same_told}
use Rattle.netdb_questions.proofs.answers.same_as.Goals as goal

pub returns-in-Ok : goal.returns-in-Ok
returns-in-Ok c =
    let o = c.args.other in
    same_told c.args.ask.now o.path.now o.net.now c.args.net.now c.in-Ok.second c.are_same.result
    (subst (λ (v : Design). IsNetNamed v o.path.now o.net.now (Ok c.in-Ok.second)) c.requires c.in-Ok.ensures) c.are_same.ensures

pub returns-in-Err : goal.returns-in-Err
returns-in-Err c = subst (λ (v : Design). IsNetNamed v c.args.other.path.now c.args.other.net.now (Err c.in-Err.refusal)) c.requires c.in-Err.ensures
