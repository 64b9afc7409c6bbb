-- The items of a flattening that answer questions.
use Rattle.std.specs.Prelude.{◌+◌, ℕ, List, [], ◌∷◌, ◌++◌}
use Rattle.std.specs.Option.{option_map_or}
use Rattle.netlist_schema.specs.Design.{Design}
use Rattle.netlist_schema.specs.Types.{CellId, Inst, Net, Property}
use Rattle.flat_spec.specs.Paths.{at_path}
use Rattle.flat_spec.specs.Types.{Item, NetAt}
use Rattle.flat_spec.specs.declared.item.Item.TheVariants as items
use Rattle.ask_spec.specs.Nets.{first_of}
use Rattle.ask_spec.specs.Places.{insts_of, nets_of, properties_of}

-- the effective properties of the occurrence at the path, none where there is no such occurrence
abbrev pub effective_at : Design → List ℕ → List Property
effective_at d path = option_map_or (λ properties. properties) (properties_of d path) []

-- the occurrence at the path, which is of that cell
abbrev pub occurrence_item : Design → List ℕ → CellId → Item
occurrence_item d path c = items.Enter path c (effective_at d path)

-- a net, by the first of those that are connected with it
abbrev pub net_item : Design → NetAt → Item
net_item d x = items.Net x.path x.net (first_of d x)

-- a net that is its own first
abbrev pub first_item : NetAt → Item
first_item x = items.Net x.path x.net x

-- the occurrences of these instances of the occurrence at the path, the first of which has that place
abbrev pub inst_items : Design → List ℕ → ℕ → List Inst → List Item
inst_items d path place [] = []
inst_items d path place (inst ∷ insts) = occurrence_item d (path ++ place ∷ []) inst.of ∷ inst_items d path (place + 1) insts

-- these nets of it, the first of which has that place
abbrev pub net_items : Design → List ℕ → ℕ → List Net → List Item
net_items d path place [] = []
net_items d path place (net ∷ nets) = net_item d (at_path path place) ∷ net_items d path (place + 1) nets

-- the occurrences right below the one at the path, and its nets, in the order of the contents
abbrev pub occurrences_below : Design → List ℕ → List Item
occurrences_below d path = inst_items d path 0 (insts_of d path)

abbrev pub nets_in : Design → List ℕ → List Item
nets_in d path = net_items d path 0 (nets_of d path)
