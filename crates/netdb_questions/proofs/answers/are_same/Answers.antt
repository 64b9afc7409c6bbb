use Rattle.std.proofs.Common.{◌∙◌}
use Rattle.ask_spec.specs.Nets.{is_same_net}
use Rattle.netdb_questions.proofs.answers.are_same.Goals as goal

pub returns-in-Ok : goal.returns-in-Ok
returns-in-Ok c = c.in-Ok.ensures ∙ (λ k. is_same_net c.args.ask.now (c.of.ensures k) (c.of-2.ensures k))
