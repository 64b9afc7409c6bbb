use Rattle.std.proofs.Common.{refl, subst, sym}
use Rattle.question_calls.specs.Questions.{AnswersQuestion}
use Rattle.question_calls.specs.declared.calls.QuestionCall.{QuestionCall}
use Rattle.question_calls.proofs.calls.answer_question.Goals as goal

pub returns-in-Same : goal.returns-in-Same
returns-in-Same c =
    let q = c.args.questions.now in
    let text = c.args.text.now.items in
    subst (λ (call : QuestionCall). AnswersQuestion call q q text text c.are_same.result) (sym c.in-Same.is)
    (refl, refl, c.are_same.ensures)

pub returns-in-Insts : goal.returns-in-Insts
returns-in-Insts c =
    let text = c.args.text.now.items in
    subst (λ (call : QuestionCall). AnswersQuestion call c.args.questions.now c.insts.new.self text text c.of_begun.result) (sym c.in-Insts.is)
    (refl, (c.insts.result, c.insts.ensures, c.of_begun.ensures))

pub returns-in-Nets : goal.returns-in-Nets
returns-in-Nets c =
    let text = c.args.text.now.items in
    subst (λ (call : QuestionCall). AnswersQuestion call c.args.questions.now c.nets.new.self text text c.of_begun-in-Nets.result) (sym c.in-Nets.is)
    (refl, (c.nets.result, c.nets.ensures, c.of_begun-in-Nets.ensures))

pub returns-in-At : goal.returns-in-At
returns-in-At c =
    let q = c.args.questions.now in
    subst (λ (call : QuestionCall). AnswersQuestion call q q c.args.text.now.items c.say_item.new.text.items c.say_item.result) (sym c.in-At.is)
    (refl, (c.at-item.result, c.at-item.ensures, c.say_item.ensures))

pub returns-in-NetOf : goal.returns-in-NetOf
returns-in-NetOf c =
    let q = c.args.questions.now in
    subst (λ (call : QuestionCall). AnswersQuestion call q q c.args.text.now.items c.say_item-in-NetOf.new.text.items c.say_item-in-NetOf.result) (sym c.in-NetOf.is)
    (refl, (c.net_of-item.result, c.net_of-item.ensures, c.say_item-in-NetOf.ensures))

pub returns-in-InnerNetOf : goal.returns-in-InnerNetOf
returns-in-InnerNetOf c =
    let q = c.args.questions.now in
    subst (λ (call : QuestionCall). AnswersQuestion call q q c.args.text.now.items c.say_item-in-InnerNetOf.new.text.items c.say_item-in-InnerNetOf.result) (sym c.in-InnerNetOf.is)
    (refl, (c.inner_net_of-item.result, c.inner_net_of-item.ensures, c.say_item-in-InnerNetOf.ensures))

pub returns-in-FirstOf : goal.returns-in-FirstOf
returns-in-FirstOf c =
    let q = c.args.questions.now in
    subst (λ (call : QuestionCall). AnswersQuestion call q q c.args.text.now.items c.say_item-in-FirstOf.new.text.items c.say_item-in-FirstOf.result) (sym c.in-FirstOf.is)
    (refl, (c.first_of-item.result, c.first_of-item.ensures, c.say_item-in-FirstOf.ensures))

pub returns-in-Pins : goal.returns-in-Pins
returns-in-Pins c =
    let text = c.args.text.now.items in
    subst (λ (call : QuestionCall). AnswersQuestion call c.args.questions.now c.begin_pins.new.questions text text c.begin_pins.result) (sym c.in-Pins.is)
    (refl, c.begin_pins.ensures)
