use Rattle.std.proofs.Common.{◌+◌, ap, drop}
use Rattle.std.proofs.lemmas.List.{drop_all}
use Rattle.script_spec.specs.ScriptText.{steps_of}
use Rattle.script_run.specs.Coming.{step_at}
use Rattle.script_run.proofs.Standing.{walks_here}
use Rattle.script_run.proofs.Whole.{at_first, ends_at, goes_at, may_stand, next_line, stops_at}
use Rattle.script_run.proofs.run.run_lines.Goals as goal

pub loop-at-init : goal.loop-at-init
loop-at-init g c = at_first c.args.along.now.db.now c.args.pass.now (steps_of c.args.along.now.lines.now) c.args.out.now.items c.requires.ready c.requires.fresh c.requires.placed c.requires.top c.requires.empty

pub run_line-requires-clause-placed : goal.run_line-requires-clause-placed
run_line-requires-clause-placed g c =
    let i = c.loop-at.at in
    may_stand c.args.along.now.db.now c.args.pass.now c.loop-at.pass (steps_of c.args.along.now.lines.now) c.loop-at.out.items c.loop-at.held (step_at c.args.along.now.lines.now i) (steps_of (drop (i + 1) c.args.along.now.lines.now))
    (next_line c.args.along.now.db.now c.args.pass.now c.loop-at.pass (steps_of c.args.along.now.lines.now) c.loop-at.out.items c.loop-at.held c.args.along.now.lines.now i c.index-along-at.result c.loop-at-test.true c.index-along-at.is c.loop-at.invariant)

pub run_line-requires-clause-top : goal.run_line-requires-clause-top
run_line-requires-clause-top g c =
    let i = c.loop-at.at in
    walks_here c.args.along.now.db.now.base (step_at c.args.along.now.lines.now i) (steps_of (drop (i + 1) c.args.along.now.lines.now))
    (next_line c.args.along.now.db.now c.args.pass.now c.loop-at.pass (steps_of c.args.along.now.lines.now) c.loop-at.out.items c.loop-at.held c.args.along.now.lines.now i c.index-along-at.result c.loop-at-test.true c.index-along-at.is c.loop-at.invariant).top

pub returns-in-Err-clause-ends : goal.returns-in-Err-clause-ends
returns-in-Err-clause-ends g c =
    let i = c.loop-at.at in
    stops_at c.args.along.now.db.now c.args.pass.now c.loop-at.pass c.run_line.new.pass (steps_of c.args.along.now.lines.now) c.loop-at.out.items c.run_line.new.out.items c.loop-at.held (step_at c.args.along.now.lines.now i) (steps_of (drop (i + 1) c.args.along.now.lines.now))
    (next_line c.args.along.now.db.now c.args.pass.now c.loop-at.pass (steps_of c.args.along.now.lines.now) c.loop-at.out.items c.loop-at.held c.args.along.now.lines.now i c.index-along-at.result c.loop-at-test.true c.index-along-at.is c.loop-at.invariant)
    c.run_line.ensures.on c.in-Err.stop c.in-Err.ensures.comes

pub loop-at-preserved : goal.loop-at-preserved
loop-at-preserved g c =
    let i = c.loop-at.at in
    goes_at c.args.along.now.db.now c.args.pass.now c.loop-at.pass c.run_line.new.pass (steps_of c.args.along.now.lines.now) c.loop-at.out.items c.run_line.new.out.items c.loop-at.held (step_at c.args.along.now.lines.now i) (steps_of (drop (i + 1) c.args.along.now.lines.now))
    (next_line c.args.along.now.db.now c.args.pass.now c.loop-at.pass (steps_of c.args.along.now.lines.now) c.loop-at.out.items c.loop-at.held c.args.along.now.lines.now i c.index-along-at.result c.loop-at-test.true c.index-along-at.is c.loop-at.invariant)
    c.run_line.ensures.on c.in-Ok.next c.in-Ok.ensures.comes

pub returns-clause-ends : goal.returns-clause-ends
returns-clause-ends g c =
    ends_at c.args.along.now.db.now c.args.pass.now c.loop-at.pass (steps_of c.args.along.now.lines.now) c.loop-at.out.items c.loop-at.held (steps_of (drop c.loop-at.at c.args.along.now.lines.now)) (ap steps_of (drop_all c.loop-at.at c.args.along.now.lines.now c.loop-at-test.false)) c.loop-at.invariant
