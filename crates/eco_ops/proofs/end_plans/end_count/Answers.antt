use Rattle.std.proofs.Common.{◌≡◌, arith, length, min, ap}
use Rattle.std.specs.List.{flat_map}
use Rattle.netlist_schema.specs.Types.{Net}
use Rattle.netlist_schema.specs.declared.listed.Mark.{Mark}
use Rattle.eco_ops.proofs.Counts.{ends_left}
use Rattle.eco_ops.proofs.end_plans.end_count.Goals as goal

pub overflow_add-count : goal.overflow_add-count
overflow_add-count c =
    let split = ends_left c.loop-net.net-iterator c.next.new.self c.in-Some.net.now c.in-Some.ensures.steps in
    let size : c.mark.result.ends ≡ min (length c.in-Some.net.now.ends) 4294967295 = ap (λ (m : Mark). m.ends) c.mark.ensures in
    omega (arith, split, size, c.loop-net.invariant.left, c.requires)

pub loop-net-preserved : goal.loop-net-preserved
loop-net-preserved c =
    let split = ends_left c.loop-net.net-iterator c.next.new.self c.in-Some.net.now c.in-Some.ensures.steps in
    let size : c.mark.result.ends ≡ min (length c.in-Some.net.now.ends) 4294967295 = ap (λ (m : Mark). m.ends) c.mark.ensures in
    record { can_next = tt; is_finite = tt; left = omega (arith, split, size, c.loop-net.invariant.left, c.requires) }

pub returns : goal.returns
returns c =
    let none : length (flat_map (λ (net : Net). net.ends) c.loop-net.net-iterator) ≡ 0 = ap (λ nets. length (flat_map (λ (net : Net). net.ends) nets)) c.in-None.ensures.steps.0 in
    omega (arith, none, c.loop-net.invariant.left)
