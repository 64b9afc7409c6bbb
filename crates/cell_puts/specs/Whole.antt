-- Changes of a whole part of a cell.
use Rattle.edit_cells.specs.declared.change.CellChange.{CellChange}
use Rattle.edit_cells.specs.declared.change.CellChange.TheVariants.{Fresh, Face, Inner, Net, Inst}

-- the change adds a cell, or gives one other properties or other contents
abbrev pub IsWhole : CellChange → Type 0
IsWhole (Fresh id body) = Unit {0}
IsWhole (Face id properties) = Unit {0}
IsWhole (Inner id contents) = Unit {0}
IsWhole (Net id place net) = ⊥
IsWhole (Inst id place inst) = ⊥
