use Rattle.std.proofs.Common.{◌≤◌, List, arith, length, sym, ap, ◌∙◌}
use Rattle.std.proofs.lemmas.List.{take_all}
use Rattle.edit_spec.specs.Step.{run}
use Rattle.db_spec.specs.declared.event.Event.{Event}
use Rattle.used_replay.specs.Replayed.{accepted}
use Rattle.used_replay.proofs.Partway.{event_done, event_partway, on_err, replayed_runs}
use Rattle.used_replay.proofs.again.replay.Goals as goal

pub returns-in_err-redo-clause-partway : goal.returns-in_err-redo-clause-partway
returns-in_err-redo-clause-partway g c = on_err c.from_residual.result _
    (event_partway c.args.history.now c.loop-event.event-index c.event-item.result (g.C.Cells.state c.args.cells.now).design (g.C.Cells.state c.loop-event.cells).design (g.C.Cells.state c.redo.new.cells).design
    c.loop-event-test.true c.event-item.is c.loop-event.invariant.1 c.in_err-redo.ensures.partway)

pub loop-event-preserved : goal.loop-event-preserved
loop-event-preserved g c = (
  c.redo.ensures.base ∙ c.loop-event.invariant.0,
  event_done c.args.history.now c.loop-event.event-index c.event-item.result (g.C.Cells.state c.args.cells.now).design (g.C.Cells.state c.loop-event.cells).design (g.C.Cells.state c.redo.new.cells).design
      c.loop-event-test.true c.event-item.is c.loop-event.invariant.1 c.in_ok-redo.ensures.done,
)

pub returns-clause-done : goal.returns-clause-done
returns-clause-done g c =
    let d = (g.C.Cells.state c.args.cells.now).design in
    let history = c.args.history.now in
    let past : length history ≤ c.loop-event.event-index = omega (arith, c.loop-event-test.false) in
    c.loop-event.invariant.1
    ∙ ap (λ (v : List Event). (run d (accepted v)).design) (take_all c.loop-event.event-index history past)
    ∙ sym (replayed_runs d history)
