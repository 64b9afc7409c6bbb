use Rattle.std.proofs.Common.{arith, length, ◌≤◌, subst}
use Rattle.db_spec.proofs.Kept.{events_after}
use Rattle.db_spec.proofs.Sound.{kept_up_after}
use Rattle.db_spec.specs.Answers.{most_events}
use Rattle.db_core.specs.Story.{Story}
use Rattle.db_core.proofs.database.Core.history_is_legal.Goals as goal

pub returns-clause-short : goal.returns-clause-short
returns-clause-short c =
    let up = kept_up_after c.self.inside.opening.design c.self.inside.log.items c.self.invariant.history.legal in
    let within = up.within in
    let events = events_after c.self.inside.opening.design c.self.inside.log.items in
    let few : length c.self.inside.log.items ≤ most_events = omega arith in
    subst (λ (st : Story). length st.events ≤ most_events) c.self.view_is few
