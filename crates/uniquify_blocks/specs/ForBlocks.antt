-- What a cell reads that may get a copy.
use Rattle.std.specs.Prelude.{◌≡◌, ◌⊎◌, true}
use Rattle.netlist_schema.specs.Design.{Design}
use Rattle.netlist_schema.specs.Types.{CellId, Object}
use Rattle.netlist_schema.specs.declared.ids.Object.TheVariants.{Directory}
use Rattle.uniquify_spec.specs.Blocks.{is_block}
use Rattle.uniquify_spec.specs.Parts.{IsPartOf}

-- both parts of it, and the directory of its library where it is a block
abbrev pub IsForBlock : Design → CellId → Object → Type 0
IsForBlock d id o = IsPartOf id o ⊎ ((is_block d id ≡ true) × (o ≡ Directory id.lib))
