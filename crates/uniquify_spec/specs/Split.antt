-- Occurrences that get cells of their own: some keep their cell, others get a copy, and in the cell of each occurrence the
-- instances whose occurrences get copies are turned to these.
use Rattle.std.specs.Prelude.{ℕ, Bool, false, cond, List, [], ◌∷◌, ◌++◌, find, map, option_map, option_to_list}
use Rattle.std.specs.List.{enumerate_from, flat_map, list_any}
use Rattle.std.specs.Option.{option_map_or}
use Rattle.netlist_schema.specs.Design.{Design, cell_at}
use Rattle.netlist_schema.specs.Types.{CellBody, CellId, Contents, Inst}
use Rattle.edit_rules_spec.specs.Edit.{Edit, fresh, inner}
use Rattle.edit_rules_spec.specs.Seen.{contents_at}
use Rattle.flat_spec.specs.ConnectionTest.{above}
use Rattle.flat_spec.specs.Occurrences.{Occurrence}
use Rattle.uniquify_spec.specs.Copies.{Copy, same_path, is_copy_at}

-- which occurrences keep their cell, and which get a copy
pub record Split : Type 0 where
  pub kept : List Occurrence
  pub copies : List Copy

-- the cell of the occurrence at a path, which had this one: the copy where it gets one, else as before
abbrev pub own_cell : List Copy → List ℕ → CellId → CellId
own_cell copies path cell = option_map_or (λ copy. copy.id) (find (is_copy_at path) copies) cell

-- an instance, with its place, of the occurrence at a path: it is turned to the own cell of the occurrence at its end
abbrev pub turned_inst : List Copy → List ℕ → ℕ × Inst → Inst
turned_inst copies path (i, inst) = record inst { of = own_cell copies (path ++ i ∷ []) inst.of }

abbrev pub turned : List Copy → List ℕ → Contents → Contents
turned copies path contents = record contents { insts = map (turned_inst copies path) (enumerate_from 0 contents.insts) }

-- a copy is the cell as it is, under the copy's name
abbrev pub renamed : Copy → CellBody → CellBody
renamed copy body = record body { name = copy.name }

abbrev pub new_cell : Design → Copy → List Edit
new_cell d copy = option_to_list (option_map (λ body. fresh copy.id (renamed copy body)) (cell_at d copy.of))

-- an occurrence that has a cell of its own: its path, the cell that it had before, and its own one
pub record Owner : Type 0 where
  pub path : List ℕ
  pub cell : CellId
  pub own : CellId

abbrev pub copy_owner : Copy → Owner
copy_owner copy = record { path = copy.path; cell = copy.of; own = copy.id }

abbrev pub kept_owner : Occurrence → Owner
kept_owner o = record { path = o.path; cell = o.cell; own = o.cell }

abbrev pub owners : Split → List Owner
owners s = map copy_owner s.copies ++ map kept_owner s.kept

-- an instance of the occurrence at the path is turned
abbrev pub is_turned : List Copy → List ℕ → Bool
is_turned copies path = list_any (λ copy. option_map_or (λ up. same_path up.0 path) (above copy.path) false) copies

-- the own cell of an occurrence, where an instance in it is turned
abbrev pub turned_cell : Design → List Copy → Owner → List Edit
turned_cell d copies o =
    cond (is_turned copies o.path) (option_to_list (option_map (λ contents. inner o.own (turned copies o.path contents)) (contents_at d o.cell))) []

-- all that is changed: the copies are made in order, and then instances are turned
abbrev pub split_edits : Design → Split → List Edit
split_edits d s = flat_map (new_cell d) s.copies ++ flat_map (turned_cell d s.copies) (owners s)
