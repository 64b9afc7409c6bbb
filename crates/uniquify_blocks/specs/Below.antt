-- What is read of all that is below a top.
use Rattle.std.specs.Prelude.{◌⊎◌}
use Rattle.netlist_schema.specs.Design.{Design}
use Rattle.netlist_schema.specs.Hierarchy.{IsBelow}
use Rattle.netlist_schema.specs.Types.{CellId, Object}
use Rattle.edit_cells.specs.Parts.{IsInside}
use Rattle.uniquify_blocks.specs.ForBlocks.{IsForBlock}

-- what is inside the top; of each cell below it both parts, and the directory of its library where it is a block
abbrev pub IsForAllBelow : Design → CellId → Object → Type 0
IsForAllBelow d top o = IsInside top o ⊎ ((id : CellId) × IsBelow d id top × IsForBlock d id o)
