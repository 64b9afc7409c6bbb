-- Changes that are written at once.
use Rattle.std.specs.Prelude.{◌≡◌, ◌≤◌, ◌++◌, ℕ, List, [], ◌∷◌, Option, option_map, option_to_list, length, IsSome, IsSomeAnd}
use Rattle.netlist_parts.specs.Put.{put_at}
use Rattle.netlist_schema.specs.Design.{Design, lib_at, cells_in, insts_in, nets_in}
use Rattle.netlist_schema.specs.Hierarchy.{IsCell}
use Rattle.netlist_schema.specs.Types.{Contents, Inst as InstType, Net as NetType}
use Rattle.edit_rules_spec.specs.Edit.{Edit, fresh, inner, own, noted, edited_once, edited}
use Rattle.edit_rules_spec.specs.Edit.{IsChanged}
use Rattle.edit_rules_spec.specs.Seen.{contents_at}
use Rattle.edit_cells.specs.State.{State, GrowsBy}
use Rattle.edit_cells.specs.declared.change.CellChange.{CellChange}
use Rattle.edit_cells.specs.declared.change.CellChange.TheVariants.{Fresh, Face, Inner, Net, Inst}
use Rattle.edit_cells.specs.declared.change.Change.{Change}

-- contents with a net put at a place, and with an instance: it replaces the one there, or goes behind the last
abbrev pub net_put : ℕ → NetType → Option Contents → Contents
net_put place net old = record { insts = insts_in old; nets = put_at (nets_in old) place net }

abbrev pub inst_put : ℕ → InstType → Option Contents → Contents
inst_put place inst old = record { insts = put_at (insts_in old) place inst; nets = nets_in old }

-- a change of a cell as an edit of the design in which it is made
abbrev pub edit_of : Design → CellChange → Edit
edit_of d (Fresh id body) = fresh id body
edit_of d (Face id properties) = own id properties
edit_of d (Inner id contents) = inner id contents
edit_of d (Net id place net) = inner id (net_put place net (contents_at d id))
edit_of d (Inst id place inst) = inner id (inst_put place inst (contents_at d id))

-- changes of cells that are made one after the other, each in the design that the ones before it leave
abbrev pub cell_edits : Design → List CellChange → List Edit
cell_edits d [] = []
cell_edits d (change ∷ changes) = edit_of d change ∷ cell_edits (edited_once d (edit_of d change)) changes

-- a change as a list of edits: its cells in order, and then the notes where they are given
abbrev pub edits_of : Design → Change → List Edit
edits_of d change = cell_edits d change.cells ++ option_to_list (option_map noted change.notes)

-- a change that can be made: a new cell stands at the end of the directory of a library, other changes are of a cell that is
-- there, and that has contents where they are changed, in which a net or an instance has its place or goes last
abbrev pub CanBeMade : Design → CellChange → Type 0
CanBeMade d (Fresh id body) = IsSome (lib_at d id.lib) × (id.slot ≡ length (cells_in d id.lib))
CanBeMade d (Face id properties) = IsCell d id
CanBeMade d (Inner id contents) = IsSome (contents_at d id)
CanBeMade d (Net id place net) = IsSomeAnd (contents_at d id) (λ contents. place ≤ length contents.nets)
CanBeMade d (Inst id place inst) = IsSomeAnd (contents_at d id) (λ contents. place ≤ length contents.insts)

-- changes that can be made one after the other
abbrev pub CanAllBeMade : Design → List CellChange → Type 0
CanAllBeMade d [] = Unit {0}
CanAllBeMade d (change ∷ changes) = CanBeMade d change × CanAllBeMade (edited_once d (edit_of d change)) changes

-- these edits were made, and nothing else was done
pub record HasMade (old new : State) (edits : List Edit) : Type 0 where
  pub base : new.base ≡ old.base
  pub design : new.design ≡ edited old.design edits
  pub reads : new.reads ≡ old.reads
  pub written : GrowsBy old.written new.written (IsChanged edits)
