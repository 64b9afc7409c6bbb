use Rattle.std.proofs.Common.{arith, subst}
use Rattle.ungroup_plans.specs.Taken.{IsNamedUp}
use Rattle.netlist_schema.specs.Types.{Inst}
use Rattle.ungroup_spec.specs.Dissolved.{inst_name, with_inst_name}
use Rattle.ungroup_plans.proofs.Named.{named_more}
use Rattle.ungroup_plans.proofs.insts.add_children.Goals as goal

pub loop-place-preserved : goal.loop-place-preserved
loop-place-preserved c = λ names of few.
    let name = c.in_ok-name.name in
    let child = c.at-child.result.now in
    let up = subst (λ (v : Inst). IsNamedUp c.loop-place.taken c.args.inst.now v.name c.name_up.new.self name) c.deref.ensures c.in_ok-name.ensures in
    named_more inst_name with_inst_name c.args.inst.now c.loop-place.taken c.name_up.new.self names c.args.children.now c.loop-place.place child c.in_ok-named.field-0 name c.args.made.now.items c.loop-place.made.items c.push.new.self.items
    (omega arith) c.at-child.ensures.is few up c.in_ok-named.ensures c.in_ok-push.ensures.items (c.loop-place.invariant names of few)
