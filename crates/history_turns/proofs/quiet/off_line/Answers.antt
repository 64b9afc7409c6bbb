use Rattle.history_turns.proofs.Quieting.{no_release_passed, no_walk_passed}
use Rattle.history_turns.proofs.quiet.off_line.Goals as goal

pub returns-in_ok-say_no_pin-in-Walk : goal.returns-in_ok-say_no_pin-in-Walk
returns-in_ok-say_no_pin-in-Walk c most = rw c.in-Walk.is (no_walk_passed _ c.args.said.now.items c.say_no_pin.new.out.items c.in_ok-say_no_pin-in-Walk.ensures.ok)

pub returns-in_ok-say_no_pin-in-Release : goal.returns-in_ok-say_no_pin-in-Release
returns-in_ok-say_no_pin-in-Release c most = rw c.in-Release.is (no_release_passed c.args.said.now.items c.say_no_pin-in-Release.new.out.items c.in_ok-say_no_pin-in-Release.ensures.ok)
