use Rattle.std.proofs.Common.{arith, ap, length}
use Rattle.std.proofs.lemmas.List.{length-map}
use Rattle.db_spec.proofs.Sound.{is_sound, kept_up_after}
use Rattle.db_core.specs.Story.{shot}
use Rattle.db_core.proofs.Steps.{state_of}
use Rattle.db_core.proofs.database.Core.kept.Goals as goal

pub overflow_cast-result : goal.overflow_cast-result
overflow_cast-result c =
    let s = state_of c.self.inside in
    let legal = c.self.invariant.history.legal in
    let few = (is_sound c.self.inside.opening.design c.self.inside.log.items legal).few_kept in
    let within = (kept_up_after c.self.inside.opening.design c.self.inside.log.items legal).within in
    let kept = ap length c.self.invariant.stands.versions in
    omega (arith, c.len.ensures, length-map s.kept (shot s))
