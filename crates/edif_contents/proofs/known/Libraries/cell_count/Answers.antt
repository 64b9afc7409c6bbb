use Rattle.std.proofs.Common.{◌≡◌, ◌<◌, List, length, subst, arith, ◌-◌, slice_index_or}
use Rattle.edif_contents.specs.Known.{NamedLib}
use Rattle.edif_contents.proofs.KnownLemmas.{counted, named}
use Rattle.edif_contents.proofs.known.Libraries.cell_count.Goals as goal

pub returns-in-Some : goal.returns-in-Some
returns-in-Some c =
    let at = c.in-Some.ensures.item.3 in
    let P : List NamedLib → Type 0 = λ v. 0 < length v in
    let Q : List NamedLib → Type 0 = λ v. c.in-Some.lib.now ≡ slice_index_or v (length v - 1) c.in-Some.lib.now in
    let k = c.lib.inside.cells.ok.0 in
    counted c.args.self.now c.self.inside.libs.items c.self.inside.names c.in-Some.lib.now (named c.lib.inside.head c.lib.inside.cells.items c.lib.inside.names) c.len.result c.self.view_is
    (subst P c.deref.ensures.value at.0) (subst Q c.deref.ensures.value (at.1 c.in-Some.lib.now)) c.lib.view_is c.lib.invariant.0 (omega arith)
