use Rattle.std.proofs.Common.{sym, subst, ◌∙◌}
use Rattle.ungroup_plans.specs.Taken.{AreUsedUp}
use Rattle.ungroup_plans.proofs.taken.Taken.next_number.Goals as goal

pub returns-in-Some : goal.returns-in-Some
returns-in-Some c =
    subst (λ v. AreUsedUp v c.args.letters.now.items c.in-Some.number) c.self.view_is (c.self.invariant c.args.letters.now c.in-Some.number (sym (c.in-Some.ensures ∙ c.get.ensures.value)))
