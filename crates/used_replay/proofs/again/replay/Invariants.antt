use Rattle.std.proofs.Common.{◌≡◌, take}
use Rattle.edit_spec.specs.Step.{run}
use Rattle.used_replay.specs.Replayed.{accepted}
use Rattle.used_replay.proofs.again.replay.Given as goal

-- the operations of the events before this place are done
abbrev pub invariant-loop-event : goal.invariant-loop-event
invariant-loop-event g l =
    ((g.C.Cells.state l.cells).base ≡ (g.C.Cells.state l.fn.cells).base)
    × ((g.C.Cells.state l.cells).design ≡ (run (g.C.Cells.state l.fn.cells).design (accepted (take l.event-index l.history))).design)
