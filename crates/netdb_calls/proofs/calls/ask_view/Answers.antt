use Rattle.std.proofs.Common.{refl, subst, sym}
use Rattle.netdb_calls.specs.Answers.{AskedView}
use Rattle.netdb_calls.specs.declared.opened.Inside.{Inside}
use Rattle.netdb_calls.specs.declared.opened.Inside.TheVariants.{View}
use Rattle.netdb_calls.specs.declared.opened.Opened.{Opened}
use Rattle.netdb_calls.proofs.Others.{no_view_asked}
use Rattle.netdb_calls.proofs.calls.ask_view.Goals as goal

pub returns-in_default : goal.returns-in_default
returns-in_default c =
    no_view_asked c.args.call c.args.opened.now.inside c.args.opened.now c.args.opened.now c.only.result c.in_default.not-View (record { same = refl; answer_is = c.only.ensures })

pub returns : goal.returns
returns c =
    let now : Opened = record { inside = View c.answer_view.new.view; text = c.answer_view.new.text } in
    subst (λ (i : Inside). AskedView c.args.call i c.args.opened.now now c.answer_view.result) (sym c.in-View.is)
    (record { view = c.answer_view.new.view; inside = refl; answers = c.answer_view.ensures })
