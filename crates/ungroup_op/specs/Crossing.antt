-- Where the path of a note goes through an instance of a cell.
use Rattle.std.specs.Prelude.{◌+◌, ◌&&◌, ℕ, Bool, cond, List, [], ◌∷◌, Option, Some, None, map, option_and_then, option_map}
use Rattle.netlist_schema.specs.Design.{Design}
use Rattle.netlist_schema.specs.Hierarchy.{insts_at}
use Rattle.netlist_schema.specs.Types.{CellId, Note}
use Rattle.edit_rules_spec.specs.Find.{inst_named, is_name}
use Rattle.edit_rules_spec.specs.Paths.{same_cell}

-- the step is the instance of the cell
abbrev pub is_inst : CellId → List ℕ → CellId → List ℕ → Bool
is_inst cell inst at step = same_cell at cell && is_name step inst

-- the place of the first step of a path, from a cell downwards, that is the instance
abbrev pub crossing : Design → CellId → List ℕ → CellId → List (List ℕ) → Option ℕ
crossing d cell inst at [] = None
crossing d cell inst at (step ∷ steps) =
    cond (is_inst cell inst at step) (Some 0)
    (option_map (λ k. k + 1) (option_and_then (λ next. crossing d cell inst next.of steps) (inst_named step (insts_at d at))))

-- for the path of each note
abbrev pub crossings : Design → CellId → List ℕ → CellId → List Note → List (Option ℕ)
crossings d cell inst top notes = map (λ note. crossing d cell inst top note.path) notes

-- a place that was found before, or else this one, where its step is the instance
abbrev pub first_place : Option ℕ → Bool → ℕ → Option ℕ
first_place (Some before) here place = Some before
first_place None here place = cond here (Some place) None
