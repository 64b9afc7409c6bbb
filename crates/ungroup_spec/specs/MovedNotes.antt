-- The notes after an instance is dissolved.
use Rattle.std.specs.Prelude.{◌&&◌, ℕ, cond, List, [], ◌∷◌, Option, Some, None, filter_map, option_and_then, option_map, slice_get}
use Rattle.std.specs.List.{list_any}
use Rattle.std.specs.Option.{option_map_or}
use Rattle.netlist_schema.specs.Design.{Design}
use Rattle.netlist_schema.specs.Hierarchy.{insts_at}
use Rattle.netlist_schema.specs.Types.{CellId, Note}
use Rattle.edit_rules_spec.specs.Find.{is_name, inst_place, inst_named}
use Rattle.edit_rules_spec.specs.Paths.{same_cell, goes_through}
use Rattle.ungroup_spec.specs.Dissolved.{children}
use Rattle.ungroup_spec.specs.Groups.{Site}

-- the identifier that a child gets
abbrev pub child_id : Site → List ℕ → List ℕ
child_id s name = option_map_or (λ inst. inst.name.id) (option_and_then (slice_get (children s)) (inst_place name s.within.insts)) name

-- what follows the instance in a path: none if it ends there, else the child by its new identifier, and the steps below it
abbrev pub past_inst : Site → List (List ℕ) → Option (List (List ℕ))
past_inst s [] = None
past_inst s (child ∷ steps) = Some (child_id s child ∷ steps)

-- a path of identifiers, from this cell downwards, after the instance of that cell is dissolved: where it goes through the instance
-- on to a child, the two steps are one; where it ends at the instance it leads nowhere; any other stays
abbrev pub moved_path : Design → CellId → Site → CellId → List (List ℕ) → Option (List (List ℕ))
moved_path d cell s at [] = Some []
moved_path d cell s at (step ∷ steps) =
    cond (same_cell at cell && is_name step s.inst.name.id) (past_inst s steps)
    (option_map (λ rest. step ∷ rest) (option_map_or (λ next. moved_path d cell s next.of steps) (inst_named step (insts_at d at)) (Some steps)))

abbrev pub moved_note : Design → CellId → Site → CellId → Note → Option Note
moved_note d cell s top note = option_map (λ path. record note { path = path }) (moved_path d cell s top note.path)

-- the notes afterwards
abbrev pub moved_notes : Design → CellId → Site → CellId → List Note
moved_notes d cell s top = filter_map (moved_note d cell s top) d.notes

-- the notes afterwards, where the path of one goes through the instance; else none changes
abbrev pub changed_notes : Design → CellId → Site → Option (List Note)
changed_notes d cell s =
    option_and_then (λ top. cond (list_any (λ note. goes_through d cell s.inst.name.id top.cell note.path) d.notes)
    (Some (moved_notes d cell s top.cell)) None) d.top
