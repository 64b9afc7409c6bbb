-- What a change does to the cells of its library.
use Rattle.std.specs.Prelude.{◌++◌, ℕ, List, [], ◌∷◌}
use Rattle.netlist_schema.specs.Change.{body_with, with_inst_put, with_net_put}
use Rattle.netlist_schema.specs.Types.{CellBody, Lib}
use Rattle.edit_rules_spec.specs.Edit.{changed_at, with_contents, with_properties}
use Rattle.edit_cells.specs.declared.change.CellChange.{CellChange}
use Rattle.edit_cells.specs.declared.change.CellChange.TheVariants.{Fresh, Face, Inner, Net, Inst}

-- a cell that is there, after the change
abbrev pub body_after : CellChange → CellBody → CellBody
body_after (Fresh id new) body = body
body_after (Face id properties) body = with_properties properties body
body_after (Inner id contents) body = with_contents contents body
body_after (Net id place net) body = body_with (with_net_put place net) body
body_after (Inst id place inst) body = body_with (with_inst_put place inst) body

abbrev pub cells_after : CellChange → List CellBody → List CellBody
cells_after (Fresh id body) cells = cells ++ body ∷ []
cells_after (Face id properties) cells = changed_at (body_after (Face id properties)) id.slot cells
cells_after (Inner id contents) cells = changed_at (body_after (Inner id contents)) id.slot cells
cells_after (Net id place net) cells = changed_at (body_after (Net id place net)) id.slot cells
cells_after (Inst id place inst) cells = changed_at (body_after (Inst id place inst)) id.slot cells

abbrev pub lib_after : CellChange → Lib → Lib
lib_after change lib = record lib { cells = cells_after change lib.cells }

-- the place of its library
abbrev pub place_of : CellChange → ℕ
place_of (Fresh id body) = id.lib.0
place_of (Face id properties) = id.lib.0
place_of (Inner id contents) = id.lib.0
place_of (Net id place net) = id.lib.0
place_of (Inst id place inst) = id.lib.0
