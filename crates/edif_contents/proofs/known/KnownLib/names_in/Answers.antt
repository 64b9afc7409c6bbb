use Rattle.std.proofs.Common.{◌≡◌, ◌≤◌, ℕ, List, None, length, subst}
use Rattle.std.specs.Prelude.{slice_get}
use Rattle.edif_contents.specs.Known.{NamedLib}
use Rattle.edif_contents.specs.NamesOf.{AreNamesThere}
use Rattle.edif_contents.proofs.KnownLemmas.{get_at, names_there, no_names}
use Rattle.edif_contents.proofs.known.KnownLib.names_in.Goals as goal

pub returns-in-Some-clause-some : goal.returns-in-Some-clause-some
returns-in-Some-clause-some c =
    let P : NamedLib → Type 0 = λ v. AreNamesThere (slice_get v.lib.cells c.args.slot) c.in-Some.names.now in
    let at = c.in-Some.ensures.lookup.3 in
    subst P c.self.view_is (names_there c.self.inside.inner.items c.self.inside.cells.items c.args.slot c.in-Some.names.now c.self.invariant.1 (rw c.deref.ensures.value at (get_at c.deref.result.now c.args.slot c.in-Some.names.now at.0 (at.1 c.in-Some.names.now))))

pub returns-in-None-clause-none : goal.returns-in-None-clause-none
returns-in-None-clause-none c =
    let P : NamedLib → Type 0 = λ v. slice_get v.lib.cells c.args.slot ≡ None in
    let Q : List (List (List ℕ × ℕ)) → Type 0 = λ v. length v ≤ c.args.slot in
    subst P c.self.view_is (no_names c.self.inside.inner.items c.self.inside.cells.items c.args.slot c.self.invariant.1 (subst Q c.deref.ensures.value c.in-None.ensures.lookup.3))
