use Rattle.std.proofs.Common.{◌<◌, arith, drop, length}
use Rattle.script_spec.specs.ScriptText.{steps_of}
use Rattle.history_turns.specs.Seats.{phase_of}
use Rattle.history_turns.proofs.Quieting.{calls_at, ends_at, passed_more, passed_much, too_much_at, walk_at}
use Rattle.history_turns.proofs.quiet.pass_quiet.Goals as goal

pub quiet_line-requires : goal.quiet_line-requires
quiet_line-requires c walks = c.loop-line.invariant.top (c.requires.top (walk_at c.args.lines.now c.loop-line.line c.index-lines-line.result c.loop-line-test.true walks))

pub returns-then-len-most : goal.returns-then-len-most
returns-then-len-most c = λ story caller legal mine.
    let long : c.args.most < length c.loop-line.said.items = omega (arith, c.if-len-most.true, c.len.ensures, c.loop-line.said.ok.0) in
    passed_much story (phase_of c.args.at) (phase_of c.loop-line.now) (drop c.args.first (steps_of c.args.lines.now)) (drop c.loop-line.line (steps_of c.args.lines.now)) c.args.said.now.items c.loop-line.said.items c.args.most
    (c.loop-line.invariant.passes story caller legal mine) long

pub returns-in-Calls : goal.returns-in-Calls
returns-in-Calls c =
    let i = c.loop-line.invariant in
    calls_at c.args.at c.loop-line.now c.in-Calls.same c.args.lines.now c.args.first c.loop-line.line c.index-lines-line.result c.args.said.now.items c.loop-line.said.items c.quiet_line.new.said.items c.args.most c.loop-line-test.true i.passes i.pin
    (rw c.in-Calls.is at c.in_ok-next.ensures)

pub returns-in-TooMuch : goal.returns-in-TooMuch
returns-in-TooMuch c =
    let i = c.loop-line.invariant in
    too_much_at c.args.at c.loop-line.now c.args.lines.now c.args.first c.loop-line.line c.index-lines-line.result c.args.said.now.items c.loop-line.said.items c.quiet_line.new.said.items c.args.most c.loop-line-test.true i.passes i.pin
    (rw c.in-TooMuch.is at c.in_ok-next.ensures)

pub loop-line-preserved : goal.loop-line-preserved
loop-line-preserved c =
    let i = c.loop-line.invariant in
    let one = rw c.in-Passed.is at c.in_ok-next.ensures in
    record {
      passes = λ story caller legal mine. passed_more story caller c.args.at c.loop-line.now c.in-Passed.next c.args.lines.now c.args.first c.loop-line.line c.index-lines-line.result c.args.said.now.items c.loop-line.said.items c.quiet_line.new.said.items
          c.loop-line-test.true legal (i.pin story caller mine) (i.passes story caller legal mine) one;
      pin = λ story caller mine. one.pin story caller (i.pin story caller mine);
      top = λ h. one.top (i.top h);
      from = let low = i.from in omega (arith, low);
    }

pub returns : goal.returns
returns c =
    let i = c.loop-line.invariant in
    ends_at c.args.at c.loop-line.now c.args.lines.now c.args.first c.loop-line.line c.args.said.now.items c.loop-line.said.items (let low = c.loop-line.auto.line-end c.requires.first in let high = c.loop-line-test.false in omega (arith, low, high)) i.passes i.pin
