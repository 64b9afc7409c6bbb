use Rattle.std.proofs.Common.{ℕ, List, Option, arith, refl, sym, ap, ◌∙◌}
use Rattle.netlist_schema.specs.Types.{Net, Port}
use Rattle.netlist_schema.proofs.Lists.{all_gone, next_item}
use Rattle.bus_members.specs.Widths.{ports_among}
use Rattle.netlist_bus_spec.specs.Runs.{is_member}
use Rattle.bus_members.proofs.Counted.{no_more, one_more}
use Rattle.bus_members.proofs.runs.members.Goals.{then-count-width-via-then-count-width, then-count-width-via-else-count-width+then-not-is_member}
use Rattle.bus_members.proofs.runs.members.Goals as goal

pub loop-net-init : goal.loop-net-init
loop-net-init g c = record {
  can_next = tt;
  is_finite = tt;
  left = sym (c.into_iter-net-iterator.ensures.into_iter_gives ∙ c.again-net-items.ensures);
  within = omega arith;
  bounded = omega arith;
  members = refl;
}

pub returns-then-count-width-clause-greatest : goal.returns-then-count-width-clause-greatest
returns-then-count-width-clause-greatest g c = λ v most within h.
    let ports : Option ℕ → List Port = ports_among (g.S.Shown.design c.args.inside.now.design.now) c.args.inside.now.own.now c.args.inside.now.insts.now in
    let next = next_item c.args.nets.now c.loop-net.count c.in-Some.net.now c.next.new.self (c.loop-net.invariant.left ∙ c.in-Some.ensures.steps) in
    elim c.then-count-width.branch [
      | then-count-width-via-then-count-width w ↦ omega (arith, most, w.if-count-width.true)
      | then-count-width-via-else-count-width+then-not-is_member w ↦
          no_more ports c.args.width c.args.first.now c.loop-net.count c.loop-net.count v c.args.nets.now c.in-Some.net.now w.is_member.result refl next.within next.is (w.is_member.ensures ∙ ap (λ (net : Net). is_member ports c.args.width c.args.first.now c.loop-net.count net) w.deref.ensures) w.if-not-is_member.true h
    ]

pub loop-net-preserved : goal.loop-net-preserved
loop-net-preserved g c =
    let ports : Option ℕ → List Port = ports_among (g.S.Shown.design c.args.inside.now.design.now) c.args.inside.now.own.now c.args.inside.now.insts.now in
    let next = next_item c.args.nets.now c.loop-net.count c.in-Some.net.now c.next.new.self (c.loop-net.invariant.left ∙ c.in-Some.ensures.steps) in
    record {
      can_next = tt;
      is_finite = tt;
      left = next.left;
      within = omega (arith, next.within);
      bounded = omega (arith, c.if-count-width.false);
      members = one_more ports c.args.width c.args.first.now c.loop-net.count c.loop-net.count c.args.nets.now c.in-Some.net.now c.is_member.result refl next.within next.is (c.is_member.ensures ∙ ap (λ (net : Net). is_member ports c.args.width c.args.first.now c.loop-net.count net) c.deref.ensures) c.if-not-is_member.false c.loop-net.invariant.members;
    }

pub returns-clause-greatest : goal.returns-clause-greatest
returns-clause-greatest g c = λ v most within h.
    let gone = all_gone c.args.nets.now c.loop-net.count (c.loop-net.invariant.left ∙ c.in-None.ensures.steps.0) in
    omega (arith, gone, within)
