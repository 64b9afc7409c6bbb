-- The change that gives occurrences cells of their own.
use Rattle.std.specs.Prelude.{◌≡◌, ◌≤◌, ℕ, cond, List, [], ◌∷◌, ◌++◌, Option, Some, None, length, map, slice_get, slice_set}
use Rattle.std.specs.List.{flat_map, All}
use Rattle.std.specs.Option.{option_map, option_or, option_to_list}
use Rattle.netlist_schema.specs.Design.{Design, cell_at}
use Rattle.netlist_schema.specs.Hierarchy.{IsCell}
use Rattle.netlist_schema.specs.Names.{AreDistinct}
use Rattle.netlist_schema.specs.Types.{CellId, Contents}
use Rattle.edit_rules_spec.specs.Edit.{changed_at}
use Rattle.edit_rules_spec.specs.Seen.{contents_at}
use Rattle.flat_spec.specs.Paths.{Reaches}
use Rattle.uniquify_spec.specs.Copies.{Copy, names_with}
use Rattle.uniquify_spec.specs.Split.{is_turned, renamed, turned}
use Rattle.edit_cells.specs.declared.change.CellChange.{CellChange}
use Rattle.edit_cells.specs.declared.change.CellChange.TheVariants.{Fresh, Inner}
use Rattle.uniquify_copies.specs.declared.namer.Twin.{Twin}
use Rattle.uniquify_copies.specs.Seats.{Seat, copies_at, copies_of, seats, twin_of}
use Rattle.uniquify_copies.specs.declared.spot.Spot.{Spot}

-- a copy of a cell under its new name
abbrev pub fresh_of : Design → Copy → List CellChange
fresh_of d copy = option_to_list (option_map (λ body. Fresh copy.id (renamed copy body)) (cell_at d copy.of))

-- the copy that a spot gets, wherever it is
abbrev pub fresh_for : Design → Spot → List CellChange
fresh_for d spot = flat_map (fresh_of d) (copies_at (record { path = []; cell = spot.cell; twin = spot.twin }))

-- contents with the instance at a place turned to a cell
abbrev pub turned_to : ℕ → CellId → Contents → Contents
turned_to place id contents = record contents { insts = changed_at (λ inst. record inst { of = id }) place contents.insts }

-- the contents of a seat's own cell, where an instance in it is turned
abbrev pub turned_at : Design → List Copy → Seat → Option Contents
turned_at d copies seat = cond (is_turned copies seat.path) (option_map (turned copies seat.path) (contents_at d seat.cell)) None

-- the table of contents once an instance of a seat's own cell is turned, in what was made before or else in its old contents
abbrev pub turned_in : Design → List (Option Contents) → ℕ → CellId → ℕ → CellId → Option Contents → List (Option Contents)
turned_in d table number cell place id was = slice_set table number (option_map (turned_to place id) (option_or was (contents_at d cell)))

-- a spot without a copy leaves the table; for another one an instance is turned
abbrev pub IsTurnedBy : Design → CellId → List Spot → Spot → Option Twin → List (Option Contents) → List (Option Contents) → Type 0
IsTurnedBy d top spots spot None old new = new ≡ old
IsTurnedBy d top spots spot (Some twin) old new = (cell : CellId) × (option_map (λ seat. seat.cell) (slice_get (seats top spots) spot.above) ≡ Some cell)
    × ((was : Option Contents) → slice_get old spot.above ≡ Some was → new ≡ turned_in d old spot.above cell spot.place twin.id was)

abbrev pub IsTurnedFor : Design → CellId → List Spot → Spot → List (Option Contents) → List (Option Contents) → Type 0
IsTurnedFor d top spots spot old new = IsTurnedBy d top spots spot spot.twin old new

-- other contents of a cell, where there are any
abbrev pub inner_to : CellId → Option Contents → List CellChange
inner_to id contents = option_to_list (option_map (Inner id) contents)

-- of a copy, and of a cell that is kept
abbrev pub copied_to : Option CellId → Option Contents → List CellChange
copied_to (Some id) contents = inner_to id contents
copied_to None contents = []

abbrev pub kept_to : Option CellId → CellId → Option Contents → List CellChange
kept_to (Some id) cell contents = []
kept_to None cell contents = inner_to cell contents

abbrev pub copied_inner : (Seat → Option Contents) → Seat → List CellChange
copied_inner contents seat = copied_to (twin_of seat) (contents seat)

abbrev pub kept_inner : (Seat → Option Contents) → Seat → List CellChange
kept_inner contents seat = kept_to (twin_of seat) seat.cell (contents seat)

abbrev pub inners : (Seat → Option Contents) → List Seat → List CellChange
inners contents ss = flat_map (copied_inner contents) ss ++ flat_map (kept_inner contents) ss

-- all of it: the copies in order, and then instances are turned
abbrev pub changes_of : Design → List Seat → List CellChange
changes_of d ss = flat_map (fresh_of d) (copies_of ss) ++ inners (turned_at d (copies_of ss)) ss

-- each copy is of a cell that is there, and goes last in the library of that cell, behind the copies before it
abbrev pub AreLast : Design → List Copy → List Copy → Type 0
AreLast d before [] = Unit {0}
AreLast d before (copy ∷ copies) = (copy.id.slot ≡ length (names_with d before copy.id.lib)) × (copy.id.lib ≡ copy.of.lib) × IsCell d copy.of × AreLast d (before ++ copy ∷ []) copies

-- the seats of a list of spots stand as they are to: each spot names one before it, no two seats are at one path, each is where
-- its path leads, and the copies are new cells
pub record AreSeats (d : Design) (top : CellId) (spots : List Spot) : Type 0 where
  pub above : (before after : List Spot) (spot : Spot) → spots ≡ before ++ spot ∷ after → spot.above ≤ length before
  pub apart : AreDistinct (map (λ seat. seat.path) (seats top spots))
  pub reached : All (λ seat. Reaches d top seat.path seat.cell) (seats top spots)
  pub last : AreLast d [] (copies_of (seats top spots))
