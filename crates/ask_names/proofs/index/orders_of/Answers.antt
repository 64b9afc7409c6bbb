use Rattle.std.proofs.Common.{List, refl, sym, ap, map, subst}
use Rattle.netlist_schema.specs.Names.{AreDistinct}
use Rattle.netlist_schema.specs.Types.{Inst, Net, Port}
use Rattle.ask_names.proofs.IndexLemmas.{insts_differ, nets_differ, ports_differ}
use Rattle.ask_names.proofs.OrderLemmas.{in_order_as}
use Rattle.ask_names.proofs.index.orders_of.Goals as goal

pub order_of-requires-clause-differ : goal.order_of-requires-clause-differ
order_of-requires-clause-differ g c =
    let d = g.S.Shown.design c.args.design.now in
    subst (λ (v : List Inst). AreDistinct (map (λ (i : Inst). i.name.id) v)) (sym c.insts_at.ensures.value) (insts_differ d c.args.cell c.design_is_valid.ensures)

pub order_of-requires-2-clause-differ : goal.order_of-requires-2-clause-differ
order_of-requires-2-clause-differ g c =
    let d = g.S.Shown.design c.args.design.now in
    subst (λ (v : List Net). AreDistinct (map (λ (n : Net). n.name.id) v)) (sym c.nets_at.ensures.value) (nets_differ d c.args.cell c.design_is_valid.ensures)

pub order_of-requires-3-clause-differ : goal.order_of-requires-3-clause-differ
order_of-requires-3-clause-differ g c =
    let d = g.S.Shown.design c.args.design.now in
    subst (λ (v : List Port). AreDistinct (map (λ (p : Port). p.name.id) v)) (sym c.ports_at.ensures.value) (ports_differ d c.args.cell c.design_is_valid.ensures)

pub returns : goal.returns
returns g c = record {
  insts = in_order_as _ _ _ _ (ap (λ (v : List Inst). map (λ (i : Inst). i.name.id) v) c.insts_at.ensures.value) refl c.in_ok-insts.ensures;
  nets = in_order_as _ _ _ _ (ap (λ (v : List Net). map (λ (n : Net). n.name.id) v) c.nets_at.ensures.value) refl c.in_ok-nets.ensures;
  ports = in_order_as _ _ _ _ (ap (λ (v : List Port). map (λ (p : Port). p.name.id) v) c.ports_at.ensures.value) refl c.in_ok-ports.ensures;
}
