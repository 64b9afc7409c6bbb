use Rattle.std.proofs.Common.{◌≡◌, List, nat_eq, sym, subst, ◌∙◌}
use Rattle.std.specs.Prelude.{IfSome}
use Rattle.std.specs.BTreeMap as by_order
use Rattle.std.specs.Cmp.Lexicographic.{pointwise}
use Rattle.indexmap.specs.IndexMap.{get}
use Rattle.netlist_schema.specs.Hierarchy.{insts_at}
use Rattle.netlist_schema.specs.Types.{Inst}
use Rattle.flat_items.specs.Named.{ArePlaces, cell_cmp}
use Rattle.flat_items.specs.Ways.{IsNameFound}
use Rattle.flat_items.proofs.NamedLemmas.{one_cell_more}
use Rattle.flat_items.proofs.named.NamedPlaces.find.Goals as goal

pub returns-in-Some-clause-found : goal.returns-in-Some-clause-found
returns-in-Some-clause-found g c =
    let insts = insts_at (g.S.Shown.design c.args.design.now) c.args.cell in
    let known : ArePlaces insts (get (pointwise nat_eq) c.in-Some.places.now) =
    subst (λ o. IfSome o (λ places. ArePlaces insts (get (pointwise nat_eq) places))) (sym c.in-Some.ensures.value) (c.requires c.args.cell) in
    let at : c.copied.result ≡ get (pointwise nat_eq) c.in-Some.places.now c.args.name.now = c.copied.ensures ∙ c.get-in-Some.ensures.value in
    subst (λ o. IsNameFound insts c.args.name.now o) (sym at) (known c.args.name.now)

pub returns-clause-named : goal.returns-clause-named
returns-clause-named g c =
    let d = g.S.Shown.design c.args.design.now in
    let here : ArePlaces (insts_at d c.args.cell) (get (pointwise nat_eq) c.in_ok-places.places) =
    subst (λ (insts : List Inst). ArePlaces insts (get (pointwise nat_eq) c.in_ok-places.places)) c.insts_at.ensures.value c.in_ok-places.ensures in
    one_cell_more (λ cell places. ArePlaces (insts_at d cell) (get (pointwise nat_eq) places)) c.args.cell (by_order.get cell_cmp c.args.self.now.cells) (by_order.get cell_cmp c.insert.new.self)
    c.in_ok-places.places c.in_ok-insert.ensures.updates.0 here c.requires
