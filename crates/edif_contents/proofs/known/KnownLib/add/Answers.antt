use Rattle.std.proofs.Common.{◌≡◌, ℕ, List, map, refl, sym, subst}
use Rattle.edif_spec.specs.Design.{CellBody}
use Rattle.edif_parts.specs.Names.{DefinesName, ids}
use Rattle.edif_contents.proofs.KnownLemmas.{grown, ids_grown, pushed, zip_still}
use Rattle.edif_contents.proofs.known.KnownLib.add.Goals as goal

pub invariant_of-self : goal.invariant_of-self
invariant_of-self c =
    let o = c.in-Ok.earlier in
    let cells = c.self.inside.cells.items in
    let new = c.push_cell.new.cells.items in
    let D : List ℕ → Type 0 = λ v. DefinesName c.self.inside.names v c.args.place c.define_cell.new.names o in
    let names = ids_grown (λ (b : CellBody). b.name.id) cells new c.args.cell c.self.inside.names c.define_cell.new.names c.args.place o (subst D c.name.ensures c.in-Ok.ensures.ok)
    (pushed o c.args.cell c.args.cell cells c.define_cell.new.cells.items new c.push_cell.ensures.none c.push_cell.ensures.some c.define_cell.ensures.items refl) c.self.invariant.0 in
    (names, c.push_cell.ensures.names (zip_still cells c.define_cell.new.cells.items c.self.inside.inner.items c.define_cell.new.inner.items c.define_cell.ensures.items c.define_cell.ensures.inner c.self.invariant.1))

pub invariant_of-self-in-Err : goal.invariant_of-self-in-Err
invariant_of-self-in-Err c =
    let N : List (List ℕ × ℕ) → Type 0 = λ v. ids v ≡ map (λ (b : CellBody). b.name.id) c.self.inside.cells.items in
    let C : List CellBody → Type 0 = λ v. ids c.define_cell.new.names ≡ map (λ (b : CellBody). b.name.id) v in (
      subst C (sym c.define_cell.ensures.items) (subst N (sym c.in-Err.ensures.err) c.self.invariant.0),
      zip_still c.self.inside.cells.items c.define_cell.new.cells.items c.self.inside.inner.items c.define_cell.new.inner.items c.define_cell.ensures.items c.define_cell.ensures.inner c.self.invariant.1,
    )

pub returns-in-Ok-clause-ok : goal.returns-in-Ok-clause-ok
returns-in-Ok-clause-ok c =
    let o = c.in-Ok.earlier in
    let cells = c.self.inside.cells.items in
    let new = c.push_cell.new.cells.items in
    grown c.args.self.now c.self.inside.head cells new c.self.inside.names c.define_cell.new.names c.args.cell c.name.result.now c.args.place o c.self.view_is c.name.ensures c.in-Ok.ensures.ok
    (pushed o c.args.cell c.args.cell cells c.define_cell.new.cells.items new c.push_cell.ensures.none c.push_cell.ensures.some c.define_cell.ensures.items refl)
