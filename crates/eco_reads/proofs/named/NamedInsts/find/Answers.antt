use Rattle.std.proofs.Common.{◌≡◌, ℕ, List, nat_eq, sym, ap, subst, ◌∙◌}
use Rattle.std.specs.Prelude.{IfSome}
use Rattle.std.specs.BTreeMap as by_order
use Rattle.std.specs.Cmp.Lexicographic.{pointwise}
use Rattle.indexmap.specs.IndexMap.{get}
use Rattle.netlist_schema.specs.Hierarchy.{insts_at}
use Rattle.netlist_schema.specs.Order.{cell_cmp}
use Rattle.edit_rules_spec.specs.Find.{inst_place}
use Rattle.eco_reads.proofs.NamedLemmas.{cell_of_place, one_cell_more}
use Rattle.eco_reads.proofs.named.NamedInsts.find.Goals as goal

pub returns-in-Some-clause-found : goal.returns-in-Some-clause-found
returns-in-Some-clause-found c = λ d here named.
    let known : (name : List ℕ) → get (pointwise nat_eq) c.in-Some.places.now name ≡ inst_place name (insts_at d c.args.cell) =
    subst (λ o. IfSome o (λ places. (name : List ℕ) → get (pointwise nat_eq) places name ≡ inst_place name (insts_at d c.args.cell))) (sym c.in-Some.ensures.value) (named c.args.cell) in
    cell_of_place c.args.insts.now c.args.name.now _ _
    (c.copied.ensures ∙ c.get-in-Some.ensures.value ∙ known c.args.name.now ∙ ap (inst_place c.args.name.now) (sym here)) c.cell_at_place.ensures

pub returns-clause-found : goal.returns-clause-found
returns-clause-found c = λ d here named.
    cell_of_place c.args.insts.now c.args.name.now _ _
    (c.copied-place.ensures ∙ c.get-2.ensures.value ∙ c.in_ok-places.ensures c.args.name.now) c.cell_at_place-2.ensures

pub returns-clause-named : goal.returns-clause-named
returns-clause-named c = λ d here named.
    one_cell_more (λ cell places. (name : List ℕ) → get (pointwise nat_eq) places name ≡ inst_place name (insts_at d cell)) c.args.cell (by_order.get cell_cmp c.args.self.now.cells) (by_order.get cell_cmp c.insert.new.self)
    c.in_ok-places.places c.in_ok-insert.ensures.updates.0 (λ name. c.in_ok-places.ensures name ∙ ap (inst_place name) here) named
