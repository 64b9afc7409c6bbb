use Rattle.std.proofs.Common.{ℕ, List, Some, ◌∙◌, ap, subst}
use Rattle.flat_spec.specs.Paths.{at_path}
use Rattle.flat_spec.specs.Types.{NetAt}
use Rattle.ask_spec.specs.Nets.{first_of}
use Rattle.netdb_questions.specs.Answers.{IsAnsweredBy}
use Rattle.netdb_questions.proofs.answers.first_there.Goals as goal

pub returns-in-Ok : goal.returns-in-Ok
returns-in-Ok c =
    subst (λ (x : NetAt). IsAnsweredBy (Some x) c.answer_first.result)
    (c.in-Ok.ensures ∙ ap (λ (p : List ℕ). first_of c.args.ask.now (at_path p c.args.net.now.net)) c.as_slice.ensures.value) c.answer_first.ensures
