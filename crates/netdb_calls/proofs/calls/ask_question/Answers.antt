use Rattle.std.proofs.Common.{refl, subst, sym}
use Rattle.netdb_calls.specs.Answers.{AskedQuestions}
use Rattle.netdb_calls.specs.declared.opened.Inside.{Inside}
use Rattle.netdb_calls.specs.declared.opened.Inside.TheVariants.{Questions}
use Rattle.netdb_calls.specs.declared.opened.Opened.{Opened}
use Rattle.netdb_calls.proofs.Others.{no_questions_asked}
use Rattle.netdb_calls.proofs.calls.ask_question.Goals as goal

pub returns-in_default : goal.returns-in_default
returns-in_default c =
    no_questions_asked c.args.call c.args.opened.now.inside c.args.opened.now c.args.opened.now c.only.result c.in_default.not-Questions (record { same = refl; answer_is = c.only.ensures })

pub returns : goal.returns
returns c =
    let now : Opened = record { inside = Questions c.answer_question.new.questions; text = c.answer_question.new.text } in
    subst (λ (i : Inside). AskedQuestions c.args.call i c.args.opened.now now c.answer_question.result) (sym c.in-Questions.is)
    (record { questions = c.answer_question.new.questions; inside = refl; answers = c.answer_question.ensures })
