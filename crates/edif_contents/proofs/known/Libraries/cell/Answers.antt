use Rattle.std.proofs.Common.{List, ◌≡◌, ◌≤◌, ◌∷◌, [], subst, length}
use Rattle.edif_spec.specs.Design as design
use Rattle.edif_spec.specs.Means.{meant}
use Rattle.edif_names.specs.declared.scope.Meant.TheVariants as answers
use Rattle.edif_parts.specs.Names.{Tells, ids}
use Rattle.edif_contents.specs.Known.{KnownLibs, NamedLib}
use Rattle.edif_contents.proofs.KnownLemmas.{tells_cell, tells_none}
use Rattle.edif_contents.proofs.known.Libraries.cell.Goals as goal

pub returns-in-Some : goal.returns-in-Some
returns-in-Some c =
    let P : KnownLibs → Type 0 = λ v. Tells (meant (design.cell_ids v.libs c.args.lib) c.args.name.now) c.meant.result in
    let Q : NamedLib → Type 0 = λ v. Tells (meant (ids v.names) c.args.name.now) c.meant.result in
    let R : NamedLib → Type 0 = λ v. ids v.names ≡ design.cell_ids (v.lib ∷ []) 0 in
    let at = c.in-Some.ensures.lookup.3 in
    subst P c.self.view_is (rw c.deref.ensures.value at (tells_cell c.deref.result.now c.args.lib c.in-Some.lib.now c.args.name.now c.meant.result at.0 (at.1 c.in-Some.lib.now) (subst R c.lib.view_is c.lib.invariant.0) (subst Q c.lib.view_is c.meant.ensures)))

pub returns-in-None : goal.returns-in-None
returns-in-None c =
    let P : KnownLibs → Type 0 = λ v. Tells (meant (design.cell_ids v.libs c.args.lib) c.args.name.now) answers.Absent in
    let Q : List NamedLib → Type 0 = λ v. length v ≤ c.args.lib in
    subst P c.self.view_is (tells_none c.self.inside.libs.items c.args.lib c.args.name.now (subst Q c.deref.ensures.value c.in-None.ensures.lookup.3))
