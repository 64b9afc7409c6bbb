use Rattle.std.proofs.Common.{ℕ, List, ◌∙◌, map, subst}
use Rattle.netlist_schema.specs.Names.{AreDistinct}
use Rattle.edif_spec.specs.Design as design
use Rattle.edif_nets.specs.Keys.{name_key}
use Rattle.edif_nets.proofs.NetListing.{keys_alone}
use Rattle.edif_nets.proofs.Numbers.{distinct_by, if_ok_weaker}
use Rattle.edif_nets.proofs.net_list.names_apart.Goals as goal

pub returns : goal.returns
returns c =
    let D : List ℕ → Type 0 = AreDistinct in
    let nets : List design.Net = c.args.nets.now in
    if_ok_weaker c.differ.result (λ b h t. distinct_by (name_key 0) (map (λ (n : design.Net). n.name.id) nets) (subst D (c.in_ok-keys.ensures ∙ keys_alone nets) (h t))) c.differ.ensures
