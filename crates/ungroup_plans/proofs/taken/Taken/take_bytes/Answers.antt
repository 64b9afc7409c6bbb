use Rattle.std.proofs.Common.{map, sym, subst}
use Rattle.ungroup_plans.specs.Taken.{IsOf}
use Rattle.ungroup_plans.proofs.TakenLemmas.{added, kept_still, told}
use Rattle.ungroup_plans.proofs.taken.Taken.take_bytes.Goals as goal

pub returns-clause-told : goal.returns-clause-told
returns-clause-told c = λ names of.
    told (λ v. v.items) c.self.inside.lower.keys c.insert.new.self.keys c.in_ok-key.key c.args.name.now c.in_ok-insert.field-0 c.in_ok-key.ensures c.in_ok-insert.ensures.added c.in_ok-insert.ensures.keys names
    (subst (λ v. IsOf v names) (sym c.self.view_is) of)

pub returns-clause-added : goal.returns-clause-added
returns-clause-added c =
    rw (sym c.self.view_is) (added (λ v. v.items) c.self.inside.lower.keys c.insert.new.self.keys c.in_ok-key.key c.args.name.now c.in_ok-insert.field-0 c.in_ok-key.ensures c.in_ok-insert.ensures.added c.in_ok-insert.ensures.keys)

pub invariant_of-self-2 : goal.invariant_of-self-2
invariant_of-self-2 c =
    kept_still c.self.inside.next (λ v. v.items) (map (λ v. v.items) c.self.inside.lower.keys) (map (λ v. v.items) c.insert.new.self.keys) c.args.name.now c.in_ok-insert.field-0
    (added (λ v. v.items) c.self.inside.lower.keys c.insert.new.self.keys c.in_ok-key.key c.args.name.now c.in_ok-insert.field-0 c.in_ok-key.ensures c.in_ok-insert.ensures.added c.in_ok-insert.ensures.keys)
    c.self.invariant
