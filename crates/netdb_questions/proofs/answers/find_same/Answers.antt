use Rattle.std.proofs.Common.{Err, Ok, subst, inl}
use Rattle.netlist_schema.specs.Design.{Design}
use Rattle.netdb_questions.specs.Named.{IsNetNamed}
use Rattle.netdb_questions.proofs.AnswerLemmas.{same_answered}
use Rattle.netdb_questions.proofs.answers.find_same.Goals as goal

pub returns-in-Ok : goal.returns-in-Ok
returns-in-Ok c =
    let a = c.args.one in
    let b = c.args.other in
    same_answered c.args.ask.now a.path.now a.net.now b.path.now b.net.now c.in-Ok.first c.same_as.result
    (subst (λ (v : Design). IsNetNamed v a.path.now a.net.now (Ok c.in-Ok.first)) c.requires c.in-Ok.ensures) c.same_as.ensures

pub returns-in-Err : goal.returns-in-Err
returns-in-Err c = inl (subst (λ (v : Design). IsNetNamed v c.args.one.path.now c.args.one.net.now (Err c.in-Err.refusal)) c.requires c.in-Err.ensures)
