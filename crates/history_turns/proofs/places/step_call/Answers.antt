use Rattle.history_turns.proofs.places.step_call.Goals as goal

pub returns-in-Free : goal.returns-in-Free
returns-in-Free c = rw c.in-Free.is (c.free_call.ensures c.args.asked.release)

pub returns-in-OffPin : goal.returns-in-OffPin
returns-in-OffPin c = rw c.in-OffPin.is (c.off_call.ensures c.args.asked.release)
