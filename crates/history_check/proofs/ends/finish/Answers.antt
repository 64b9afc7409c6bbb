use Rattle.std.proofs.Common.{sym, subst}
use Rattle.history_check_spec.specs.Left.{AreLoud}
use Rattle.script_spec.specs.ScriptText.{steps_of}
use Rattle.history_check.specs.Follow.{Ends}
use Rattle.history_turns.specs.Seats.{phase_of}
use Rattle.history_check.specs.declared.ends.End.TheVariants as end
use Rattle.history_check.proofs.Finishing.{end_here, ends_never, ends_whole, full_result, over_result, rest_steps}
use Rattle.history_check.proofs.Lengths.{ends_too_much}
use Rattle.history_turns.proofs.Quieting.{too_much_there}
use Rattle.history_check.proofs.ends.finish.Goals as goal

pub end_of-requires : goal.end_of-requires
end_of-requires c = let passed = rw c.in-Some.is at c.in_ok-at.ensures in subst (λ z. AreLoud (phase_of c.in-Some.at) z) (sym (rest_steps c.args.lines.now c.in-Some.line)) passed.loud

pub returns-in-Whole : goal.returns-in-Whole
returns-in-Whole c story caller stands many legal =
    let passed = rw c.in-Some.is at c.in_ok-at.ensures in
    let e = end_here c.args.lines.now c.in-Some.line (phase_of c.in-Some.at) end.Whole c.in-Whole.ensures in
    subst (λ z. Ends story caller (steps_of c.args.lines.now) z) (sym c.of.ensures)
    (ends_whole story caller (steps_of c.args.lines.now) c.args.seat stands legal c.pass_quiet.new.said.items c.in-Some.at c.in-Some.line passed (e _))

pub returns-in_ok-say_log_full-in-Full : goal.returns-in_ok-say_log_full-in-Full
returns-in_ok-say_log_full-in-Full c story caller stands many legal =
    let passed = rw c.in-Some.is at c.in_ok-at.ensures in
    let e = end_here c.args.lines.now c.in-Some.line (phase_of c.in-Some.at) (end.Full c.in-Full.places) c.in-Full.ensures in
    full_result story caller (steps_of c.args.lines.now) c.args.seat stands legal c.pass_quiet.new.said.items c.in-Some.at c.in-Some.line passed c.args.events c.in-Full.places c.args.most many c.say_log_full.new.out.items c.in_ok-say_log_full-in-Full.ensures.ok (e _) c.filled.result c.filled.ensures

pub returns-in-Over : goal.returns-in-Over
returns-in-Over c story caller stands many legal =
    let passed = rw c.in-Some.is at c.in_ok-at.ensures in
    let e = end_here c.args.lines.now c.in-Some.line (phase_of c.in-Some.at) (end.Over c.in-Over.places) c.in-Over.ensures in
    over_result story caller (steps_of c.args.lines.now) c.args.seat stands legal c.pass_quiet.new.said.items c.in-Some.at c.in-Some.line passed c.args.events c.in-Over.places c.args.most many (e _) c.filled-in-Over.result c.filled-in-Over.ensures

pub returns-in-Never : goal.returns-in-Never
returns-in-Never c story caller stands many legal =
    let passed = rw c.in-Some.is at c.in_ok-at.ensures in
    let e = end_here c.args.lines.now c.in-Some.line (phase_of c.in-Some.at) end.Never c.in-Never.ensures in
    ends_never story caller (steps_of c.args.lines.now) c.args.seat stands legal c.pass_quiet.new.said.items c.in-Some.at c.in-Some.line passed c.args.most (e _)

pub returns-in_default : goal.returns-in_default
returns-in_default c story caller stands many legal =
    ends_too_much story caller (steps_of c.args.lines.now) c.args.seat stands c.args.most legal (too_much_there _ c.in_ok-at.field-0 c.in_default.not-Some c.in_ok-at.ensures story caller legal stands.pin)
