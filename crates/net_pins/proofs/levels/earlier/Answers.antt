use Rattle.std.proofs.Common.{Some, false, refl, subst, sym, true}
use Rattle.net_pins.specs.Levels.{IsNextOf}
use Rattle.net_pins.proofs.LevelLemmas.{next_left, next_of_both, next_right}
use Rattle.net_pins.proofs.levels.earlier.Goals as goal

pub returns-in_default : goal.returns-in_default
returns-in_default c = λ xs ys inst b one two. next_right xs ys inst b c.args.other (subst (IsNextOf xs inst b) c.in_default.is one) two

pub returns-in_default-other : goal.returns-in_default-other
returns-in_default-other c = λ xs ys inst b one two. next_left xs ys inst b (Some c.in-Some.first) (subst (IsNextOf xs inst b) c.in-Some.is one) (subst (IsNextOf ys inst b) c.in_default-other.is two)

pub returns-then-is_before : goal.returns-then-is_before
returns-then-is_before c = λ xs ys inst b one two.
    (next_of_both xs ys inst b c.in-Some.first c.in-Some-other.second (subst (IsNextOf xs inst b) c.in-Some.is one) (subst (IsNextOf ys inst b) c.in-Some-other.is two) true (sym c.if-is_before.ensures)).0 refl

pub returns-else-is_before : goal.returns-else-is_before
returns-else-is_before c = λ xs ys inst b one two.
    (next_of_both xs ys inst b c.in-Some.first c.in-Some-other.second (subst (IsNextOf xs inst b) c.in-Some.is one) (subst (IsNextOf ys inst b) c.in-Some-other.is two) false (sym c.if-is_before.ensures)).1 refl
