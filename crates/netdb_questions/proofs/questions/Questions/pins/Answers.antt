use Rattle.std.proofs.Common.{Ok, subst}
use Rattle.netdb_questions.specs.Answers.{BeginsPins}
use Rattle.netdb_questions.specs.Facts.{QuestionFacts}
use Rattle.netdb_questions.specs.Lists.{left_of}
use Rattle.netdb_questions.proofs.AnswerLemmas.{pins_begun}
use Rattle.netdb_questions.proofs.questions.Questions.pins.Goals as goal

pub returns-in-Ok : goal.returns-in-Ok
returns-in-Ok c =
    let s = c.self.inside in
    subst (λ (old : QuestionFacts). BeginsPins old (record { version = record { version = s.version; design = s.ask }; left = left_of s.ask c.in-Ok.list }) c.args.role c.args.path.now c.args.net.now (Ok tt)) c.self.view_is
    (pins_begun s.ask c.args.path.now s.version (left_of s.ask s.list) c.in-Ok.list c.args.role c.args.net.now c.in-Ok.ensures)
