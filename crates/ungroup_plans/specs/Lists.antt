-- Lists of ends that are gathered by numbers.
use Rattle.std.specs.Prelude.{◌≡◌, ◌<◌, ◌==◌, ℕ, List, [], filter, length, slice_index_or}
use Rattle.std.specs.List.{flat_map, zip}
use Rattle.netlist_schema.specs.Types.{End}

-- the lists of ends that have this number, one after another
abbrev pub gathered : ℕ → List ℕ → List (List End) → List End
gathered h numbers lists = flat_map (λ p. p.1) (filter (λ p. p.0 == h) (zip numbers lists))

-- for each number the ends that have it
pub record AreGathered (numbers : List ℕ) (lists : List (List End)) (made : List (List End)) : Type 0 where
  pub long : length made ≡ length numbers
  pub each : (h : ℕ) → h < length numbers → slice_index_or made h [] ≡ gathered h numbers lists
