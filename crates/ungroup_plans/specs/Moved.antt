-- Notes that move with what is inside a dissolved instance.
use Rattle.std.specs.Prelude.{◌+◌, ℕ, cond, List, [], ◌∷◌, ◌++◌, Option, Some, None, drop, filter_map, is_some, option_and_then, option_map, slice_get, take}
use Rattle.std.specs.List.{list_any, zip}
use Rattle.std.specs.Option.{option_map_or}
use Rattle.netlist_schema.specs.Types.{Inst, Note}
use Rattle.edit_rules_spec.specs.Find.{inst_place}

-- the new identifier of a child: that of the instance now in its place
abbrev pub new_id : List Inst → List Inst → List ℕ → List ℕ
new_id within children name = option_map_or (λ inst. inst.name.id) (option_and_then (slice_get children) (inst_place name within)) name

-- what follows the instance in a path: none if it ends there
abbrev pub past : List Inst → List Inst → List (List ℕ) → Option (List (List ℕ))
past within children [] = None
past within children (child ∷ steps) = Some (new_id within children child ∷ steps)

-- a path of which the step at a place is the instance, where one is
abbrev pub path_moved : List Inst → List Inst → Option ℕ → List (List ℕ) → Option (List (List ℕ))
path_moved within children None path = Some path
path_moved within children (Some k) path = option_map (λ rest. take k path ++ rest) (past within children (drop (k + 1) path))

abbrev pub note_moved : List Inst → List Inst → Note → Option ℕ → Option Note
note_moved within children note place = option_map (λ path. record note { path = path }) (path_moved within children place note.path)

-- the notes, each with the place of the step that is the instance, where one is; none where no note has such a step
abbrev pub notes_moved : List Inst → List Inst → List Note → List (Option ℕ) → Option (List Note)
notes_moved within children notes places =
    cond (list_any is_some places) (Some (filter_map (λ p. note_moved within children p.0 p.1) (zip notes places))) None
