-- What an operation sees of a design by the names that it is given.
use Rattle.std.specs.Prelude.{ℕ, List, Option, Some, None, option_map, option_and_then}
use Rattle.netlist_schema.specs.Design.{Design, cell_at, insts_in}
use Rattle.netlist_schema.specs.Types.{CellBody, CellId, Contents, Inst, LibId, Port}
use Rattle.edit_rules_spec.specs.Find.{lib_named, cell_named, inst_named}
use Rattle.edit_rules_spec.specs.Objects.{face_at}
use Rattle.edit_rules_spec.specs.declared.reply.CellName.{CellName}

-- what a cell's name leads to: the library, the cell, and what is seen of the cell from outside
pub record Named : Type 0 where
  pub lib : Option LibId
  pub cell : Option CellId
  pub face : Option CellBody

-- the contents of a cell, none for a leaf
abbrev pub contents_at : Design → CellId → Option Contents
contents_at d id = option_and_then (λ body. body.contents) (cell_at d id)

abbrev pub named : Design → CellName → Named
named d name = record { lib = lib_named d name.lib; cell = cell_named d name; face = option_and_then (face_at d) (cell_named d name) }

abbrev pub inside : Design → CellName → Option Contents
inside d name = option_and_then (contents_at d) (cell_named d name)

-- the ports of a cell as seen from outside
abbrev pub ports_seen : Option CellBody → Option (List Port)
ports_seen face = option_map (λ seen. seen.ports) face

-- the instance with this name in the cell with that name
abbrev pub placed : Design → CellName → List ℕ → Option Inst
placed d cell name = inst_named name (insts_in (inside d cell))

-- the ports that an end may be at: the cell's own, or those of the instance's cell
abbrev pub end_ports : Design → CellName → Option (List ℕ) → Option (List Port)
end_ports d cell None = ports_seen (named d cell).face
end_ports d cell (Some name) = ports_seen (option_and_then (λ inst. face_at d inst.of) (placed d cell name))

-- the contents that are to hold an instance: seen where the cell that it places is found
abbrev pub holder : Option CellId → Option Contents → Option Contents
holder of contents = option_and_then (λ _. contents) of
