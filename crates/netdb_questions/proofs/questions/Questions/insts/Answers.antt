use Rattle.std.proofs.Common.{Ok, subst}
use Rattle.netlist_schema.specs.Design.{Design}
use Rattle.netdb_questions.specs.Items.{occurrences_below}
use Rattle.netdb_questions.specs.Answers.{BeginsInsts}
use Rattle.netdb_questions.specs.Facts.{QuestionFacts}
use Rattle.netdb_questions.specs.Lists.{IsListAt, left_of}
use Rattle.netdb_questions.proofs.AnswerLemmas.{items_begun}
use Rattle.netdb_questions.proofs.questions.Questions.insts.Goals as goal

pub returns-in-Ok : goal.returns-in-Ok
returns-in-Ok c =
    let s = c.self.inside in
    subst (λ (old : QuestionFacts). BeginsInsts old (record { version = record { version = s.version; design = s.ask }; left = left_of s.ask c.in-Ok.list }) c.args.path.now (Ok tt)) c.self.view_is
    (items_begun s.ask c.args.path.now s.version (left_of s.ask s.list) c.in-Ok.list occurrences_below (subst (λ (d : Design). IsListAt occurrences_below d c.args.path.now (Ok c.in-Ok.list)) c.self.invariant c.in-Ok.ensures))
