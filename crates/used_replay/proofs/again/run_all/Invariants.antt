use Rattle.std.proofs.Common.{◌≡◌, take}
use Rattle.edit_spec.specs.Step.{run}
use Rattle.used_replay.proofs.again.run_all.Given as goal

-- those before this place are done
abbrev pub invariant-loop-op : goal.invariant-loop-op
invariant-loop-op g l =
    ((g.C.Cells.state l.cells).base ≡ (g.C.Cells.state l.fn.cells).base)
    × ((g.C.Cells.state l.cells).design ≡ (run (g.C.Cells.state l.fn.cells).design (take l.op-index l.ops)).design)
