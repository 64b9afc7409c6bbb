-- The steps of a path.
use Rattle.std.specs.Prelude.{◌<◌, ◌^◌, ℕ, List}
use Rattle.std.specs.List.{All}

-- each step is a number of 32 bits
abbrev pub IsTypedPath : List ℕ → Type 0
IsTypedPath path = All (λ step. step < 2 ^ 32) path
