use Rattle.std.proofs.Common.{◌<◌, ◌+◌, ◌-◌, ◌/◌, ℕ, arith}
use Rattle.net_names.proofs.SearchLemmas.{step_down, step_up}
use Rattle.net_names.proofs.search.count_before.Goals as goal

pub search-preserved-then-is_before : goal.search-preserved-then-is_before
search-preserved-then-is_before c =
    let middle : ℕ = c.search.low + (c.search.high - c.search.low) / 2 in
    let less : middle < c.search.high = omega (arith, c.search-test.true) in
    record {
      low = omega (arith, less);
      high = c.search.invariant.high;
      before = step_up c.args.joints.now c.requires c.args.inst (record { port = c.args.port; bit = c.args.bit }) middle _ (omega (arith, less, c.search.invariant.high)) (c.is_before.ensures.yes c.if-is_before.true);
      behind = c.search.invariant.behind;
    }

pub search-preserved : goal.search-preserved
search-preserved c =
    let middle : ℕ = c.search.low + (c.search.high - c.search.low) / 2 in
    let less : middle < c.search.high = omega (arith, c.search-test.true) in
    record {
      low = omega arith;
      high = omega (arith, less, c.search.invariant.high);
      before = c.search.invariant.before;
      behind = step_down c.args.joints.now c.requires c.args.inst (record { port = c.args.port; bit = c.args.bit }) middle _ (omega (arith, less, c.search.invariant.high)) (c.is_before.ensures.no c.if-is_before.false);
    }
