-- Occurrences whose blocks are gone through.
use Rattle.std.specs.Prelude.{◌≡◌, ◌+◌, ◌++◌, ℕ, List, [], ◌∷◌, Some, None, slice_get, unwrap_or}
use Rattle.uniquify_copies.specs.declared.spot.Step.{Step}
use Rattle.uniquify_op.specs.declared.frame.BlockFrame.{BlockFrame}
use Rattle.uniquify_op.specs.declared.frame.Next.{Next}
use Rattle.uniquify_op.specs.declared.frame.Next.TheVariants.{End, Back, Block}

-- the row at a place, which has no blocks where there is none
abbrev pub row_at : List (List Step) → ℕ → List Step
row_at rows place = unwrap_or (slice_get rows place) []

-- the next block of the last occurrence was taken; or there was none, and the occurrence was put aside; or there was no
-- occurrence
abbrev pub IsTaken : List (List Step) → List BlockFrame → List BlockFrame → Next → Type 0
IsTaken rows old new End = old ≡ []
IsTaken rows old new Back = (frame : BlockFrame) × (old ≡ new ++ frame ∷ []) × (slice_get (row_at rows frame.row) frame.taken ≡ None)
IsTaken rows old new (Block above step) = (frame : BlockFrame) × (rest : List BlockFrame) × (old ≡ rest ++ frame ∷ []) × (new ≡ rest ++ record frame { taken = frame.taken + 1 } ∷ [])
    × (above ≡ frame.number) × (slice_get (row_at rows frame.row) frame.taken ≡ Some step)
