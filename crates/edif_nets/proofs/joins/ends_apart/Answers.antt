use Rattle.std.proofs.Common.{ℕ, List, subst}
use Rattle.netlist_schema.specs.Names.{AreDistinct}
use Rattle.edif_nets.specs.Joins.{ends_of}
use Rattle.edif_nets.specs.Keys.{end_key}
use Rattle.edif_nets.proofs.Numbers.{distinct_by, if_ok_weaker}
use Rattle.edif_nets.proofs.joins.ends_apart.Goals as goal

pub returns : goal.returns
returns c =
    let D : List ℕ → Type 0 = AreDistinct in
    if_ok_weaker c.differ.result (λ b h t. distinct_by end_key (ends_of c.args.nets.now) (subst D c.in_ok-keys.ensures (h t))) c.differ.ensures
