use Rattle.std.proofs.Common.{ℕ, List, Err, subst}
use Rattle.netlist_schema.specs.Design.{Design}
use Rattle.netdb_questions.specs.Answers.{IsThere}
use Rattle.netdb_questions.specs.Named.{IsPathNamed, LeadsTo}
use Rattle.netdb_questions.proofs.AnswerLemmas.{there_found}
use Rattle.netdb_questions.proofs.answers.find_occurrence.Goals as goal

pub returns-in-Ok : goal.returns-in-Ok
returns-in-Ok c =
    let d = c.args.ask.now in
    there_found d c.args.text.now c.in-Ok.path c.occurrence_there.result (subst (λ (v : Design). LeadsTo v c.args.text.now c.in-Ok.path) c.requires c.in-Ok.ensures)
    (subst (λ (p : List ℕ). IsThere d p c.occurrence_there.result) c.as_slice.ensures.value c.occurrence_there.ensures)

pub returns-in-Err : goal.returns-in-Err
returns-in-Err c = subst (λ (v : Design). IsPathNamed v c.args.text.now (Err c.in-Err.refusal)) c.requires c.in-Err.ensures
