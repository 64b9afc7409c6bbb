-- Occurrences with cells of their own, from a list in which each names the one that holds it.
use Rattle.std.specs.Prelude.{ℕ, cond, is_none, List, [], ◌∷◌, ◌++◌, Option, None, slice_get, unwrap_or}
use Rattle.std.specs.List.{flat_map}
use Rattle.std.specs.Option.{option_map, option_to_list}
use Rattle.netlist_schema.specs.Types.{CellId}
use Rattle.flat_spec.specs.Occurrences.{Occurrence}
use Rattle.uniquify_spec.specs.Copies.{Copy}
use Rattle.uniquify_spec.specs.Split.{Split}
use Rattle.uniquify_copies.specs.Known.{copy_at}
use Rattle.uniquify_copies.specs.declared.namer.Twin.{Twin}
use Rattle.uniquify_copies.specs.declared.spot.Spot.{Spot}

-- an occurrence: its path, its cell, and the copy that it gets
pub record Seat : Type 0 where
  pub path : List ℕ
  pub cell : CellId
  pub twin : Option Twin

-- the path of a spot, by the paths of the occurrences before it
abbrev pub path_of : List (List ℕ) → Spot → List ℕ
path_of before spot = unwrap_or (slice_get before spot.above) [] ++ spot.place ∷ []

abbrev pub seat_of : List (List ℕ) → Spot → Seat
seat_of before spot = record { path = path_of before spot; cell = spot.cell; twin = spot.twin }

abbrev pub seats_after : List (List ℕ) → List Spot → List Seat
seats_after before [] = []
seats_after before (spot ∷ spots) = seat_of before spot ∷ seats_after (before ++ path_of before spot ∷ []) spots

-- the top, which keeps its cell, and the spots
abbrev pub root_seat : CellId → Seat
root_seat top = record { path = []; cell = top; twin = None }

abbrev pub seats : CellId → List Spot → List Seat
seats top spots = root_seat top ∷ seats_after ([] ∷ []) spots

abbrev pub occurrence_of : Seat → Occurrence
occurrence_of seat = record { path = seat.path; cell = seat.cell }

-- the copies that seats get, and the seats that keep their cells
abbrev pub copies_at : Seat → List Copy
copies_at seat = option_to_list (option_map (copy_at seat.path seat.cell) seat.twin)

abbrev pub copies_of : List Seat → List Copy
copies_of ss = flat_map copies_at ss

abbrev pub kept_at : Seat → List Occurrence
kept_at seat = cond (is_none seat.twin) (occurrence_of seat ∷ []) []

abbrev pub split_of : List Seat → Split
split_of ss = record { kept = flat_map kept_at ss; copies = copies_of ss }

-- the place of the copy
abbrev pub twin_of : Seat → Option CellId
twin_of seat = option_map (λ twin. twin.id) seat.twin
