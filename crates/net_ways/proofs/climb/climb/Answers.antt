use Rattle.std.proofs.Common.{ap, ◌∙◌, arith, take}
use Rattle.flat_spec.specs.Paths.{at_path}
use Rattle.net_ways.proofs.climb.climb.Goals as goal

pub returns : goal.returns
returns g c = ap (λ n. at_path (take n c.args.path.now) c.climbed-found.result.first) (omega arith) ∙ c.climbed-found.ensures.named
