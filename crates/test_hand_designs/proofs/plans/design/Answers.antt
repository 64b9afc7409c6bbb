use Rattle.test_hand_designs.specs.Planned.{planned}
use Rattle.test_hand_designs.proofs.Checked.{sound_parts_are_valid}
use Rattle.test_hand_designs.proofs.plans.design.Goals as goal

pub of-requires : goal.of-requires
of-requires c = sound_parts_are_valid (planned c.args.plan.now) c.in_ok-title.title c.in_ok-libs.libs c.in_ok-top.top c.in_ok-notes.notes c.requires c.in_ok-title.ensures c.in_ok-libs.ensures c.in_ok-top.ensures c.in_ok-notes.ensures
