use Rattle.std.proofs.Common.{List, map, subst}
use Rattle.netlist_schema.specs.Names.{AreDistinct}
use Rattle.edif_spec.specs.Design as design
use Rattle.edif_nets.proofs.NetListing.{named_apart}
use Rattle.edif_nets.proofs.net_list.check_names.Goals as goal

pub returns-then-apart : goal.returns-then-apart
returns-then-apart c =
    let list = c.args.list.now in
    let P : List design.Net → Type 0 = λ v. AreDistinct (map (λ (n : design.Net). n.name.id) v) in
    named_apart list.nets.items list.places.items c.requires (subst P c.as_slice.ensures.value (c.in_ok-apart.ensures c.if-apart.true))
