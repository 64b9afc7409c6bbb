-- Changes that leave the uses as they are.
use Rattle.std.specs.Prelude.{◌≡◌, IsSomeAnd, slice_get}
use Rattle.netlist_schema.specs.Design.{Design}
use Rattle.netlist_schema.specs.Hierarchy.{insts_at}
use Rattle.edit_cells.specs.declared.change.CellChange.{CellChange}
use Rattle.edit_cells.specs.declared.change.CellChange.TheVariants.{Fresh, Face, Inner, Net, Inst}

-- the change gives a cell other properties or another net
abbrev pub KeepsInsts : CellChange → Type 0
KeepsInsts (Fresh id body) = ⊥
KeepsInsts (Face id properties) = Unit {0}
KeepsInsts (Inner id contents) = ⊥
KeepsInsts (Net id place net) = Unit {0}
KeepsInsts (Inst id place inst) = ⊥

-- the change does that, or gives an instance another name or other properties
abbrev pub KeepsUses : Design → CellChange → Type 0
KeepsUses d (Fresh id body) = ⊥
KeepsUses d (Face id properties) = Unit {0}
KeepsUses d (Inner id contents) = ⊥
KeepsUses d (Net id place net) = Unit {0}
KeepsUses d (Inst id place inst) = IsSomeAnd (slice_get (insts_at d id) place) (λ old. old.of ≡ inst.of)
