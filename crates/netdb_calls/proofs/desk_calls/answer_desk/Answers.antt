use Rattle.std.proofs.Common.{refl, subst, sym}
use Rattle.netdb_calls.specs.Answers.{AnswersDesk}
use Rattle.netdb_calls.specs.declared.calls.DeskCall.{DeskCall}
use Rattle.netdb_calls.proofs.desk_calls.answer_desk.Goals as goal

pub returns-in-Pin : goal.returns-in-Pin
returns-in-Pin c =
    subst (λ (call : DeskCall). AnswersDesk call c.args.desk.now c.pin.new.self c.args.text.now.items c.args.text.now.items c.of_pin.result) (sym c.in-Pin.is)
    (refl, (c.pin.result, c.pin.ensures, c.of_pin.ensures))

pub returns-in-PinAt : goal.returns-in-PinAt
returns-in-PinAt c =
    subst (λ (call : DeskCall). AnswersDesk call c.args.desk.now c.pin_at.new.self c.args.text.now.items c.args.text.now.items c.of_pin_at.result) (sym c.in-PinAt.is)
    (refl, (c.pin_at.result, c.pin_at.ensures, c.of_pin_at.ensures))

pub returns-in-Begin : goal.returns-in-Begin
returns-in-Begin c =
    subst (λ (call : DeskCall). AnswersDesk call c.args.desk.now c.begin.new.self c.args.text.now.items c.args.text.now.items c.of_begin.result) (sym c.in-Begin.is)
    (refl, (c.begin.result, c.begin.ensures, c.of_begin.ensures))

pub returns-in-Abandon : goal.returns-in-Abandon
returns-in-Abandon c =
    subst (λ (call : DeskCall). AnswersDesk call c.args.desk.now c.abandon.new.self c.args.text.now.items c.args.text.now.items c.of_done.result) (sym c.in-Abandon.is)
    (refl, (c.abandon.result, c.abandon.ensures, c.of_done.ensures))

pub returns-in-Release : goal.returns-in-Release
returns-in-Release c =
    subst (λ (call : DeskCall). AnswersDesk call c.args.desk.now c.release.new.self c.args.text.now.items c.args.text.now.items c.of_done-in-Release.result) (sym c.in-Release.is)
    (refl, (c.release.result, c.release.ensures, c.of_done-in-Release.ensures))

pub returns-in-Collect : goal.returns-in-Collect
returns-in-Collect c =
    subst (λ (call : DeskCall). AnswersDesk call c.args.desk.now c.collect.new.self c.args.text.now.items c.args.text.now.items c.of_collect.result) (sym c.in-Collect.is)
    (refl, (c.collect.result, c.collect.ensures, c.of_collect.ensures))
