use Rattle.std.proofs.Common.{◌≡◌, ◌++◌, drop}
use Rattle.std.specs.List.{flat_map}
use Rattle.design_model.specs.Items.{items_below}
use Rattle.design_model.proofs.plain.list_items.Given as goal

abbrev pub invariant-loop-occurrence : goal.invariant-loop-occurrence
invariant-loop-occurrence g l =
    l.items.items ++ flat_map (items_below (g.S.Shown.design l.design) l.nets.root) (drop l.occurrence-index l.listed)
    ≡ flat_map (items_below (g.S.Shown.design l.design) l.nets.root) l.listed
