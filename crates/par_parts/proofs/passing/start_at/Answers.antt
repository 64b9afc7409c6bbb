use Rattle.std.proofs.Common.{◌∙◌, ap, drop}
use Rattle.par_parts.proofs.passing.start_at.Goals as goal

pub returns-clause-left : goal.returns-clause-left
returns-clause-left g c = c.in_ok-skip_many.ensures.left ∙ ap (drop c.args.first) c.in_ok-place.ensures.left
