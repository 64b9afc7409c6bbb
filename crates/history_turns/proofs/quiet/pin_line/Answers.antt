use Rattle.history_turns.proofs.Quieting.{walk_passed, walk_too_much}
use Rattle.history_turns.proofs.quiet.pin_line.Goals as goal

pub returns-then-not-branch : goal.returns-then-not-branch
returns-then-not-branch c = let much = rw c.if-not-branch.true at c.in_ok-show-in-Walk.ensures in rw c.in-Walk.is (walk_too_much c.args.pin _ c.args.said.now.items c.args.most much)

pub returns-else-not-branch : goal.returns-else-not-branch
returns-else-not-branch c = let said = rw c.if-not-branch.false at c.in_ok-show-in-Walk.ensures in rw c.in-Walk.is (walk_passed c.args.pin _ c.args.said.now.items c.show.new.said.items said.0)
