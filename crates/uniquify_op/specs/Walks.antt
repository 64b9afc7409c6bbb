-- A walk over the occurrences of blocks below a top.
use Rattle.std.specs.Prelude.{◌≡◌, ◌<◌, ◌++◌, ℕ, true, List, [], ◌∷◌, drop, length, map, slice_get}
use Rattle.std.specs.List.{AllByRecursion, flat_map}
use Rattle.std.specs.Option.{option_map_or}
use Rattle.netlist_schema.specs.Design.{Design}
use Rattle.netlist_schema.specs.Types.{CellId}
use Rattle.flat_spec.specs.Occurrences.{Occurrence, under}
use Rattle.uniquify_spec.specs.Blocks.{blocks_below, root_of}
use Rattle.uniquify_copies.specs.Drafts.{IsDraft, IsNumbered, has_no_room, made_for, placed_in}
use Rattle.uniquify_copies.specs.declared.spot.Step.{Step}
use Rattle.uniquify_op.specs.Frames.{row_at}
use Rattle.uniquify_op.specs.Marks.{marks_after}
use Rattle.uniquify_op.specs.Visited.{IsVisited}
use Rattle.uniquify_op.specs.declared.frame.BlockFrame.{BlockFrame}
use Rattle.uniquify_op.specs.declared.walk.BlockTurn.{BlockTurn}
use Rattle.uniquify_op.specs.declared.walk.BlockTurn.TheVariants.{Over, Full, More}
use Rattle.uniquify_op.specs.declared.walk.BlockWalk.{BlockWalk}

-- an occurrence below one at a path
abbrev pub below_path : List ℕ → Occurrence → Occurrence
below_path path o = record { path = path ++ o.path; cell = o.cell }

-- the blocks of these steps, each with the blocks below it
abbrev pub all_under : Design → List Step → List Occurrence
all_under d steps = flat_map (λ step. map (under step.place) (root_of step.of ∷ blocks_below d step.of)) steps

-- the path of the occurrence with a number
abbrev pub path_at : List Occurrence → ℕ → List ℕ
path_at os number = option_map_or (λ o. o.path) (slice_get os number) []

-- what is left to come to in an occurrence, and in all of them, the last first
abbrev pub left_in : Design → List Occurrence → List (List Step) → BlockFrame → List Occurrence
left_in d os rows frame = map (below_path (path_at os frame.number)) (all_under d (drop frame.taken (row_at rows frame.row)))

abbrev pub left_of : Design → List Occurrence → List (List Step) → List BlockFrame → List Occurrence
left_of d os rows [] = []
left_of d os rows (frame ∷ frames) = left_of d os rows frames ++ left_in d os rows frame

-- the occurrence and the row of a frame are there
pub record IsFrame (count rows : ℕ) (frame : BlockFrame) : Type 0 where
  pub number : frame.number < count
  pub row : frame.row < rows

-- of these occurrences those that were seen are on the list, and the others are left to come to
pub record IsWalk (d : Design) (top : CellId) (os seen : List Occurrence) (walk : BlockWalk) : Type 0 where
  pub visited : IsVisited d top seen walk.visits
  pub frames : AllByRecursion (IsFrame (length (root_of top ∷ seen)) (length walk.visits.met.rows.items)) walk.stack.items
  pub left : os ≡ seen ++ left_of d (root_of top ∷ seen) walk.visits.met.rows.items walk.stack.items

abbrev pub IsSomeWalk : Design → BlockWalk → Type 0
IsSomeWalk d walk = (top : CellId) × (os : List Occurrence) × (seen : List Occurrence) × IsWalk d top os seen walk

-- the same, where a block is to be come to first
pub record IsWaiting (d : Design) (top : CellId) (os seen : List Occurrence) (walk : BlockWalk) (above : ℕ) (step : Step) : Type 0 where
  pub visited : IsVisited d top seen walk.visits
  pub frames : AllByRecursion (IsFrame (length (root_of top ∷ seen)) (length walk.visits.met.rows.items)) walk.stack.items
  pub up : Occurrence
  pub numbered : IsNumbered top (marks_after [] seen) above up
  pub left : let at = placed_in up step.place step.of in
      os ≡ seen ++ ((at ∷ map (below_path at.path) (blocks_below d step.of)) ++ left_of d (root_of top ∷ seen) walk.visits.met.rows.items walk.stack.items)

-- what came of a turn
abbrev pub IsTurned : Design → CellId → List Occurrence → BlockWalk → BlockTurn → Type 0
IsTurned d top os walk Over = IsDraft d top (marks_after [] os) walk.visits.draft
IsTurned d top os walk Full = has_no_room (made_for d (marks_after [] os)) ≡ true
IsTurned d top os walk More = (seen : List Occurrence) × IsWalk d top os seen walk
