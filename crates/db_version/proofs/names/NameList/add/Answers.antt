use Rattle.std.proofs.Common.{◌≡◌, ℕ, List, nat_eq, refl, ap, ◌∙◌}
use Rattle.std.specs.Cmp.Lexicographic.{pointwise}
use Rattle.indexmap.specs.IndexSet.{insert_key}
use Rattle.db_version.proofs.Lowering.{lowered_more, lowered_same}
use Rattle.db_version.proofs.names.NameList.add.Goals as goal
use Rattle.db_version.proofs.names.NameList.add.Goals.{After-insert_within}

pub invariant_of-self : goal.invariant_of-self
invariant_of-self c = lowered_same c.self.inside.names.keys c.self.inside.lower.keys c.reserve.new.self.keys c.self.inside.lower.keys c.self.invariant c.in_err-reserve.ensures.keys refl

pub invariant_of-self-in_err-insert : goal.invariant_of-self-in_err-insert
invariant_of-self-in_err-insert c = lowered_same c.self.inside.names.keys c.self.inside.lower.keys c.reserve.new.self.keys c.insert.new.self.keys c.self.invariant c.in_ok-reserve.ensures.keys c.in_err-insert.ensures.err

-- the names with the new one
names_are : (c : After-insert_within) → c.insert_within.new.names.keys ≡ insert_key (pointwise nat_eq) c.self.inside.names.keys c.args.name.now
names_are c = c.insert_within.ensures ∙ λ i. insert_key (pointwise nat_eq) (c.in_ok-reserve.ensures.keys i) (c.in_ok-own.ensures i)

pub invariant_of-self-2 : goal.invariant_of-self-2
invariant_of-self-2 c =
    lowered_more c.self.inside.names.keys c.self.inside.lower.keys c.insert_within.new.names.keys c.insert.new.self.keys c.args.name.now c.in_ok-lower.lower c.self.invariant c.in_ok-lower.ensures (names_are c) c.in_ok-insert.ensures.keys

pub returns-clause-ok : goal.returns-clause-ok
returns-clause-ok c = names_are c ∙ ap (λ (ks : List (List ℕ)). insert_key (pointwise nat_eq) ks c.args.name.now) c.self.view_is
