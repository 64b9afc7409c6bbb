use Rattle.std.proofs.Common.{◌<◌, ◌≤◌, ◌++◌, ◌∷◌, [], arith, length, take, ap, ◌∙◌}
use Rattle.ungroup_plans.proofs.Firsts.{first_full, first_gone, first_more, first_none}
use Rattle.ungroup_plans.proofs.notes.first_insts.Goals as goal

pub loop-inst-init : goal.loop-inst-init
loop-inst-init c = record {
  can_next = tt;
  is_finite = tt;
  so_far = first_none c.new-made.result.items c.into_iter-inst-iterator.result c.args.insts c.args.count c.new-made.ensures.items c.into_iter-inst-iterator.ensures.into_iter_gives;
}

pub returns-then-len-count : goal.returns-then-len-count
returns-then-len-count c =
    let full : c.args.count ≤ length c.loop-inst.made.items = omega (arith, c.if-len-count.true, c.len.ensures, c.loop-inst.made.ok.0) in
    first_full c.loop-inst.made.items c.loop-inst.inst-iterator (take c.args.count c.args.insts) c.args.count full c.loop-inst.invariant.so_far

pub loop-inst-preserved : goal.loop-inst-preserved
loop-inst-preserved c =
    let less : length c.loop-inst.made.items < c.args.count = omega (arith, c.if-len-count.false, c.len.ensures, c.loop-inst.made.ok.0) in
    record {
      can_next = tt;
      is_finite = tt;
      so_far = first_more c.loop-inst.made.items c.push.new.self.items c.loop-inst.inst-iterator c.next.new.self (take c.args.count c.args.insts) c.in-Some.inst.now c.args.count less
          c.in-Some.ensures.steps (c.in_ok-push.ensures.items ∙ ap (λ v. c.loop-inst.made.items ++ v ∷ []) c.in_ok-share.ensures) c.loop-inst.invariant.so_far;
    }

pub returns : goal.returns
returns c = first_gone c.loop-inst.made.items c.loop-inst.inst-iterator (take c.args.count c.args.insts) c.args.count c.in-None.ensures.steps.0 c.loop-inst.invariant.so_far
