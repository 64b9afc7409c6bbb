-- A change that fits a body.
use Rattle.std.specs.Prelude.{◌≤◌, length}
use Rattle.std.specs.Option.{ForSome}
use Rattle.netlist_schema.specs.Types.{CellBody}
use Rattle.edit_cells.specs.declared.change.CellChange.{CellChange}
use Rattle.edit_cells.specs.declared.change.CellChange.TheVariants.{Fresh, Face, Inner, Net, Inst}

-- a net or an instance has its place in the contents, or goes last
abbrev pub CanFit : CellChange → CellBody → Type 0
CanFit (Fresh id new) body = Unit {0}
CanFit (Face id properties) body = Unit {0}
CanFit (Inner id contents) body = Unit {0}
CanFit (Net id place net) body = ForSome body.contents (λ contents. place ≤ length contents.nets)
CanFit (Inst id place inst) body = ForSome body.contents (λ contents. place ≤ length contents.insts)
