use Rattle.std.proofs.Common.{refl, subst, sym}
use Rattle.netdb_calls.specs.Answers.{AskedDesk}
use Rattle.netdb_calls.specs.declared.opened.Inside.{Inside}
use Rattle.netdb_calls.specs.declared.opened.Inside.TheVariants.{Desk}
use Rattle.netdb_calls.specs.declared.opened.Opened.{Opened}
use Rattle.netdb_calls.proofs.Others.{no_desk_asked}
use Rattle.netdb_calls.proofs.calls.ask_desk.Goals as goal

pub returns-in_default : goal.returns-in_default
returns-in_default c =
    no_desk_asked c.args.call c.args.opened.now.inside c.args.opened.now c.args.opened.now c.only.result c.in_default.not-Desk (record { same = refl; answer_is = c.only.ensures })

pub returns : goal.returns
returns c =
    let now : Opened = record { inside = Desk c.answer_desk.new.desk; text = c.answer_desk.new.text } in
    subst (λ (i : Inside). AskedDesk c.args.call i c.args.opened.now now c.answer_desk.result) (sym c.in-Desk.is)
    (record { desk = c.answer_desk.new.desk; inside = refl; answers = c.answer_desk.ensures })
