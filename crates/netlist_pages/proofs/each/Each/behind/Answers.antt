use Rattle.std.proofs.Common.{◌≡◌, ◌≤◌, ℕ, arith, drop, length, sym, ap, ◌∙◌}
use Rattle.std.proofs.lemmas.List.{drop_all}
use Rattle.netlist_pages.proofs.Going.{all_gone, next_item}
use Rattle.netlist_pages.proofs.each.Each.behind.Goals as goal

pub returns-in_default : goal.returns-in_default
returns-in_default g c =
    let gone : length c.args.self.now ≤ c.loop.counter = all_gone c.args.self.now c.loop.counter (sym c.loop.invariant ∙ c.in_default.ensures.steps.0) in
    c.in_default.ensures.steps.1 ∙ sym (drop_all c.args.count c.args.self.now (omega arith))

pub loop-preserved : goal.loop-preserved
loop-preserved g c =
    let next = next_item c.args.self.now c.loop.counter c.in-Some._item.now c.next.new.self (sym c.loop.invariant ∙ c.in-Some.ensures.steps) in
    sym next.left

pub returns : goal.returns
returns g c =
    let end : c.loop.counter ≡ c.args.count = omega arith in
    c.loop.invariant ∙ ap (λ (n : ℕ). drop n c.args.self.now) end
