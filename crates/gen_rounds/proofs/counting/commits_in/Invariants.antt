use Rattle.std.proofs.Common.{◌≡◌, ◌≤◌, take}
use Rattle.std.specs.List.{count_by}
use Rattle.gen_spec.specs.Summary.{is_accepted}
use Rattle.gen_rounds.proofs.counting.commits_in.Given as goal

-- the accepted commits among the events so far
abbrev pub invariant-loop-event : goal.invariant-loop-event
invariant-loop-event l = record {
  count : l.commits ≡ count_by (λ event. is_accepted event.answer) (take l.event-index l.log);
  small : l.commits ≤ l.event-index;
}
