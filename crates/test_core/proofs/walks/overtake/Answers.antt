use Rattle.test_core.proofs.walks.overtake.Goals as goal

pub release-requires : goal.release-requires
release-requires g c = c.commit_net.ensures.is_pin.live
