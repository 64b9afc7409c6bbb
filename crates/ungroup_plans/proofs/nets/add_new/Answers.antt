use Rattle.std.proofs.Common.{subst}
use Rattle.ungroup_plans.specs.Taken.{IsNamedUp}
use Rattle.netlist_schema.specs.Types.{Net}
use Rattle.ungroup_spec.specs.Dissolved.{net_name, with_net_name}
use Rattle.ungroup_plans.proofs.Named.{named_more}
use Rattle.ungroup_plans.proofs.nets.add_new.Goals as goal

pub loop-net-preserved : goal.loop-net-preserved
loop-net-preserved c = λ names of few.
    let name = c.in_ok-name.name in
    let net = c.net-item.result in
    let up = subst (λ (v : Net). IsNamedUp c.loop-net.taken c.args.inst.now v.name c.name_up.new.self name) c.deref.ensures c.in_ok-name.ensures in
    named_more net_name with_net_name c.args.inst.now c.loop-net.taken c.name_up.new.self names c.args.nets.now c.loop-net.net-index net c.in_ok-named.field-0 name c.args.made.now.items c.loop-net.made.items c.push.new.self.items
    c.loop-net-test.true c.net-item.is few up c.in_ok-named.ensures c.in_ok-push.ensures.items (c.loop-net.invariant names of few)
