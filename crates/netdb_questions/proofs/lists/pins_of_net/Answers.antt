use Rattle.std.proofs.Common.{ℕ, List, Some, ◌∙◌, ap}
use Rattle.flat_spec.specs.Paths.{at_path}
use Rattle.ask_spec.specs.Roles.{pins_as}
use Rattle.netdb_questions.proofs.lists.pins_of_net.Goals as goal

pub returns-in-Ok : goal.returns-in-Ok
returns-in-Ok c = ap Some (c.in-Ok.ensures ∙ ap (λ (p : List ℕ). pins_as c.args.role c.args.ask.now (at_path p c.args.net.now.net)) c.as_slice.ensures.value)
