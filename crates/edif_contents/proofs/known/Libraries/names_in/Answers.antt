use Rattle.std.proofs.Common.{◌≡◌, ◌≤◌, List, None, Option, length, sym, subst}
use Rattle.std.specs.Prelude.{IfNone, IfSome}
use Rattle.edif_spec.specs.Design as design
use Rattle.edif_contents.specs.Known.{KnownLibs, NamedLib}
use Rattle.edif_contents.specs.NamesOf.{AreNamesThere}
use Rattle.edif_contents.proofs.KnownLemmas.{cell_there, no_cell}
use Rattle.edif_contents.proofs.known.Libraries.names_in.Goals as goal

pub returns-in-Some-clause-some : goal.returns-in-Some-clause-some
returns-in-Some-clause-some c =
    let at = c.in-Some.ensures.lookup.3 in
    let P : KnownLibs → Type 0 = λ v. IfSome c.names_in.result (λ n. AreNamesThere (design.cell_at v.libs c.args.id) n.now) in
    let Q : Option design.CellBody → Type 0 = λ v. IfSome c.names_in.result (λ n. AreNamesThere v n.now) in
    let e = rw c.deref.ensures.value at (cell_there c.deref.result.now c.args.id c.in-Some.lib.now at.0 (at.1 c.in-Some.lib.now)) in
    subst P c.self.view_is (subst Q (sym e) c.names_in.ensures.some)

pub returns-in-Some-clause-none : goal.returns-in-Some-clause-none
returns-in-Some-clause-none c =
    let at = c.in-Some.ensures.lookup.3 in
    let P : KnownLibs → Type 0 = λ v. IfNone c.names_in.result (design.cell_at v.libs c.args.id ≡ None) in
    let Q : Option design.CellBody → Type 0 = λ v. IfNone c.names_in.result (v ≡ None) in
    let e = rw c.deref.ensures.value at (cell_there c.deref.result.now c.args.id c.in-Some.lib.now at.0 (at.1 c.in-Some.lib.now)) in
    subst P c.self.view_is (subst Q (sym e) c.names_in.ensures.none)

pub returns-in-None-clause-none : goal.returns-in-None-clause-none
returns-in-None-clause-none c =
    let P : KnownLibs → Type 0 = λ v. design.cell_at v.libs c.args.id ≡ None in
    let Q : List NamedLib → Type 0 = λ v. length v ≤ c.args.id.lib.0 in
    subst P c.self.view_is (no_cell c.self.inside.libs.items c.args.id (subst Q c.deref.ensures.value c.in-None.ensures.lookup.3))
