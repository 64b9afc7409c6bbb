use Rattle.std.proofs.Common.{◌+◌, ◌-◌, ◌/◌, ◌<◌, length, arith, sym, ap, ◌∙◌}
use Rattle.flat_items.specs.Lent.{net_of}
use Rattle.erc_check.specs.declared.firsts.FirstNet.{FirstNet}
use Rattle.erc_check.proofs.OrderLemmas.{get_or-any, order_equal, stands_before, stands_behind}
use Rattle.erc_check.proofs.firsts.search.Goals as goal

pub halves-preserved-in-Less : goal.halves-preserved-in-Less
halves-preserved-in-Less c =
    let m = c.halves.low + (c.halves.high - c.halves.low) / 2 in
    let within : m < length c.args.firsts.now = omega (arith, c.halves-test.true, c.halves.invariant.inside) in
    record {
      ends = omega (arith, c.halves-test.true);
      inside = c.halves.invariant.inside;
      between = λ order place at.
          let here = c.halves.invariant.between order place at in
          let behind = stands_behind c.args.firsts.now (net_of c.args.at) order m c.index-firsts-middle.result within (sym c.order.ensures ∙ c.in-Less.is) place at in
          (omega (arith, behind), here.1);
    }

pub returns-in-Equal : goal.returns-in-Equal
returns-in-Equal c =
    let m = c.halves.low + (c.halves.high - c.halves.low) / 2 in
    let r = c.index-firsts-middle.result in
    let within : m < length c.args.firsts.now = omega (arith, c.halves-test.true, c.halves.invariant.inside) in
    (within, λ d. ap (λ (f : FirstNet). f.at) (get_or-any c.args.firsts.now m d r within) ∙ order_equal _ (net_of c.args.at) (sym c.order.ensures ∙ c.in-Equal.is))

pub halves-preserved : goal.halves-preserved
halves-preserved c =
    let m = c.halves.low + (c.halves.high - c.halves.low) / 2 in
    let within : m < length c.args.firsts.now = omega (arith, c.halves-test.true, c.halves.invariant.inside) in
    record {
      ends = omega arith;
      inside = omega (arith, within);
      between = λ order place at.
          let here = c.halves.invariant.between order place at in
          (here.0, stands_before c.args.firsts.now (net_of c.args.at) order m c.index-firsts-middle.result within (sym c.order.ensures ∙ c.in-Greater.is) place at);
    }

pub returns : goal.returns
returns c = λ order place at. let here = c.halves.invariant.between order place at in omega (arith, here.0, here.1, c.halves-test.false)
