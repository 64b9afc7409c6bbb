-- The nets of a tree, and the representative of each.
use Rattle.std.specs.Prelude.{◌≡◌}
use Rattle.netlist_schema.specs.Design.{Design}
use Rattle.flat_spec.specs.Occurrences.{nets}
use Rattle.design_model.specs.Firsts.{AreFirsts}
use Rattle.design_model.specs.declared.tree_nets.TreeNets.{TreeNets}

-- the nets are those of the root's tree, and beside each stands the place of its representative
pub record AreTreeNets (d : Design) (t : TreeNets) : Type 0 where
  pub listed : t.nets.items ≡ nets d t.root
  pub firsts : AreFirsts d t.root t.nets.items t.places.items
