use Rattle.std.proofs.Common.{ℕ, List, None, Some, subst, arith}
use Rattle.edif_names.specs.Scope.{Defines}
use Rattle.edif_names.specs.declared.scope.Defined.{Defined}
use Rattle.edif_parts.specs.Names.{DefinesName}
use Rattle.edif_parts.proofs.NameTables.{placed, added, was_there, numbered_after}
use Rattle.edif_parts.proofs.name_table.NameTable.define.Goals as goal

pub invariant_of-self-in-Added : goal.invariant_of-self-in-Added
invariant_of-self-in-Added c =
    let P : Defined → Type 0 = λ v. Defines c.self.inside.scope (record { name = c.args.name.now; id = c.in-Ok.id; place = c.args.place }) c.define.new.self v in
    numbered_after c.self.inside.scope c.define.new.self c.args.name.now c.in-Ok.id c.args.place c.self.inside.count c.self.invariant.0 c.self.invariant.1 (grind arith)
    (subst P c.in-Added.is c.in_ok-define.ensures.ok)

pub returns-in-Added-clause-ok : goal.returns-in-Added-clause-ok
returns-in-Added-clause-ok c =
    let P : Defined → Type 0 = λ v. Defines c.self.inside.scope (record { name = c.args.name.now; id = c.in-Ok.id; place = c.args.place }) c.define.new.self v in
    let Q : List (List ℕ × ℕ) → Type 0 = λ v. DefinesName v c.args.name.now c.args.place (placed c.define.new.self) None in
    subst Q c.self.view_is (added c.self.inside.scope c.define.new.self c.args.name.now c.in-Ok.id c.args.place (subst P c.in-Added.is c.in_ok-define.ensures.ok))

pub returns-in-Earlier-clause-ok : goal.returns-in-Earlier-clause-ok
returns-in-Earlier-clause-ok c =
    let P : Defined → Type 0 = λ v. Defines c.self.inside.scope (record { name = c.args.name.now; id = c.in-Ok.id; place = c.args.place }) c.define.new.self v in
    let Q : List (List ℕ × ℕ) → Type 0 = λ v. DefinesName v c.args.name.now c.args.place (placed c.define.new.self) (Some c.in-Earlier.earlier) in
    subst Q c.self.view_is (was_there c.self.inside.scope c.define.new.self c.args.name.now c.in-Ok.id c.args.place c.in-Earlier.earlier (subst P c.in-Earlier.is c.in_ok-define.ensures.ok))
