use Rattle.std.proofs.Common.{◌≡◌, ◌*◌, ◌≤◌, take}
use Rattle.std.specs.List.{sum_by}
use Rattle.gen_spec.specs.Summary.{dropped_by}
use Rattle.gen_rounds.proofs.counting.dropped_in.Given as goal

-- what the events so far dropped
abbrev pub invariant-loop-event : goal.invariant-loop-event
invariant-loop-event l = record {
  sum : l.dropped ≡ sum_by (λ event. dropped_by event.answer) (take l.event-index l.log);
  small : l.dropped ≤ 4294967296 * l.event-index;
}
