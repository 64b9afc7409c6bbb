use Rattle.std.proofs.Common.{ℕ, List, Option, ◌∙◌, ap, subst}
use Rattle.flat_spec.specs.Types.{NetAt}
use Rattle.ask_spec.specs.Nets.{inner_net_of}
use Rattle.netdb_questions.specs.Answers.{IsAnsweredBy}
use Rattle.netdb_questions.proofs.answers.inner_net_there.Goals as goal

pub returns-in-Ok : goal.returns-in-Ok
returns-in-Ok c =
    subst (λ (o : Option NetAt). IsAnsweredBy o c.answer_first.result)
    (c.in-Ok.ensures ∙ ap (λ (p : List ℕ). inner_net_of c.args.ask.now p c.args.at.now.port c.args.bit) c.as_slice.ensures.value) c.answer_first.ensures
