use Rattle.std.proofs.Common.{◌≡◌, ℕ, List, sym, subst}
use Rattle.std.specs.Prelude.{IfSome}
use Rattle.std.specs.BTreeMap.{get}
use Rattle.netlist_schema.specs.Order.{cell_cmp}
use Rattle.edif_spec.specs.Design as design
use Rattle.edif_spec.specs.Means.{meant}
use Rattle.edif_contents.specs.Known.{KnownLibs}
use Rattle.edif_parts.specs.Names.{Tells, ids}
use Rattle.edif_build.proofs.ReachedLemmas.{names_more}
use Rattle.edif_build.proofs.notes.Reached.meant.Goals as goal

pub returns-in-Some-clause-ok : goal.returns-in-Some-clause-ok
returns-in-Some-clause-ok c =
    let libs = c.self.inside.libs.now.libs in
    let P : List (List ℕ) → Type 0 = λ v. Tells (meant v c.args.name.now) c.meant.result in
    let Q : KnownLibs → Type 0 = λ v. Tells (meant (design.inst_ids (design.insts_at v.libs c.args.id)) c.args.name.now) c.meant.result in
    let are : ids c.in-Some.names.now ≡ design.inst_ids (design.insts_at libs c.args.id) =
    subst (λ o. IfSome o (λ (v : List (List ℕ × ℕ)). ids v ≡ design.inst_ids (design.insts_at libs c.args.id))) (sym c.in-Some.ensures.value) (c.self.invariant c.args.id) in
    subst Q c.self.view_is (subst P are c.meant.ensures)

pub returns-clause-ok : goal.returns-clause-ok
returns-clause-ok c =
    let P : List (List ℕ) → Type 0 = λ v. Tells (meant v c.args.name.now) c.meant-meant.result in
    let Q : KnownLibs → Type 0 = λ v. Tells (meant (design.inst_ids (design.insts_at v.libs c.args.id)) c.args.name.now) c.meant-meant.result in
    subst Q c.self.view_is (subst P c.in_ok-names.ensures c.meant-meant.ensures)

pub invariant_of-self-2 : goal.invariant_of-self-2
invariant_of-self-2 c =
    names_more c.self.inside.libs.now.libs c.args.id (get cell_cmp c.self.inside.names) (get cell_cmp c.insert.new.self) c.in_ok-names.names c.in_ok-insert.ensures.updates.0 c.in_ok-names.ensures c.self.invariant
