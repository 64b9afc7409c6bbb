use Rattle.std.proofs.Common.{◌≡◌, ◌+◌, ◌-◌, ◌/◌, ◌<◌, arith, length, ap, ◌∙◌}
use Rattle.netlist_pages.proofs.PageLemmas.{end_is, length_ends}
use Rattle.netlist_pages.proofs.spots.page_of.Goals as goal

pub returns-then-place-ends : goal.returns-then-place-ends
returns-then-place-ends g c =
    let pages = c.args.pages.now in
    let each : length c.args.ends.now ≡ length pages = ap length c.requires.sums ∙ length_ends 0 pages in
    let end = end_is pages c.args.ends.now c.guess-low.result c.requires.sums (omega (arith, c.if-low-high.true)) in
    record {
      there = c.guess-low.ensures.there;
      behind = c.guess-low.ensures.behind;
      inside = λ _. omega (arith, end, c.if-place-ends.true);
    }

pub loop-low-init : goal.loop-low-init
loop-low-init g c =
    let pages = c.args.pages.now in
    let each : length c.args.ends.now ≡ length pages = ap length c.requires.sums ∙ length_ends 0 pages in
    record {
      order = omega (arith, c.guess-low.ensures.there);
      within = omega arith;
      behind = c.guess-low.ensures.behind;
      inside = λ h. absurd (omega arith);
    }

pub bounds-ends-middle : goal.bounds-ends-middle
bounds-ends-middle g c =
    let each : length c.args.ends.now ≡ length c.args.pages.now = ap length c.requires.sums ∙ length_ends 0 c.args.pages.now in
    omega (arith, c.loop-low-test.true, c.loop-low.invariant.within)

pub loop-low-preserved-then-ends-middle : goal.loop-low-preserved-then-ends-middle
loop-low-preserved-then-ends-middle g c =
    let pages = c.args.pages.now in
    let each : length c.args.ends.now ≡ length pages = ap length c.requires.sums ∙ length_ends 0 pages in
    let middle = c.loop-low.low + (c.loop-low.high - c.loop-low.low) / 2 in
    let within : middle < length pages = omega (arith, c.loop-low-test.true, c.loop-low.invariant.within) in
    let end = end_is pages c.args.ends.now middle c.requires.sums within in
    record {
      order = omega (arith, c.loop-low-test.true);
      within = c.loop-low.invariant.within;
      behind = omega (arith, end, c.if-ends-middle.true);
      inside = c.loop-low.invariant.inside;
    }

pub loop-low-preserved : goal.loop-low-preserved
loop-low-preserved g c =
    let pages = c.args.pages.now in
    let each : length c.args.ends.now ≡ length pages = ap length c.requires.sums ∙ length_ends 0 pages in
    let middle = c.loop-low.low + (c.loop-low.high - c.loop-low.low) / 2 in
    let within : middle < length pages = omega (arith, c.loop-low-test.true, c.loop-low.invariant.within) in
    let end = end_is pages c.args.ends.now middle c.requires.sums within in
    record {
      order = omega (arith, c.loop-low-test.true);
      within = omega (arith, within);
      behind = c.loop-low.invariant.behind;
      inside = λ _. omega (arith, end, c.if-ends-middle.false);
    }
