use Rattle.std.proofs.Common.{map, sym, subst}
use Rattle.ungroup_plans.specs.Taken.{AreUsedUp}
use Rattle.ungroup_plans.proofs.TakenLemmas.{kept_more, kept_same}
use Rattle.ungroup_plans.proofs.taken.Taken.keep.Goals as goal

pub invariant_of-self : goal.invariant_of-self
invariant_of-self c = kept_same (λ k. k.items) c.self.inside.next c.insert.new.self (map (λ k. k.items) c.self.inside.lower.keys) c.in_err-insert.ensures.err c.self.invariant

pub invariant_of-self-2 : goal.invariant_of-self-2
invariant_of-self-2 c =
    kept_more (λ k. k.items) c.self.inside.next c.insert.new.self (map (λ k. k.items) c.self.inside.lower.keys) c.args.letters c.args.next c.in_ok-insert.ensures.updates
    (subst (λ v. AreUsedUp v c.args.letters.items c.args.next) (sym c.self.view_is) c.requires) c.self.invariant
