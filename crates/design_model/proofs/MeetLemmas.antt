-- The test of a meet, by the last step of the lower net's path.
use Rattle.std.proofs.Common.{◌≡◌, ℕ, List, [], ◌∷◌, ◌++◌, Bool, true, false, Option, ◌&&◌, nat_eq, sym, ap, ◌∙◌}
use Rattle.std.specs.Cmp.Lexicographic.{pointwise}
use Rattle.std.specs.Option.{option_map_or}
use Rattle.netlist_schema.specs.Design.{Design}
use Rattle.netlist_schema.specs.Types.{CellId}
use Rattle.flat_spec.specs.ConnectionTest.{above, meets, share_bit}
use Rattle.flat_spec.specs.Paths.{ends_at}
use Rattle.flat_spec.specs.Types.{NetAt}
use Rattle.flat_spec.proofs.TestLemmas.{above-append}

-- whether the upper net stands at the path and shares a bit of that instance with the lower one
abbrev meets_from : Design → CellId → NetAt → NetAt → List ℕ × ℕ → Bool
meets_from d root upper lower up =
    pointwise nat_eq up.0 upper.path && share_bit up.1 (ends_at d root upper) (ends_at d root lower)

-- the test, where the path above the lower net is known
meets-below : (d : Design) (root : CellId) (upper lower : NetAt) (path : List ℕ) (step : ℕ) → lower.path ≡ path ++ step ∷ []
    → (pointwise nat_eq path upper.path && share_bit step (ends_at d root upper) (ends_at d root lower)) ≡ meets d root upper lower
meets-below d root upper lower path step below =
    sym (ap (λ (o : Option (List ℕ × ℕ)). option_map_or (meets_from d root upper lower) o false) (ap above below ∙ above-append path step))

-- where the upper net stands elsewhere, they do not meet
pub meets-elsewhere : (d : Design) (root : CellId) (upper lower : NetAt) (path : List ℕ) (step : ℕ) → lower.path ≡ path ++ step ∷ []
    → pointwise nat_eq path upper.path ≡ false → false ≡ meets d root upper lower
meets-elsewhere d root upper lower path step below elsewhere =
    sym (ap (λ b. b && share_bit step (ends_at d root upper) (ends_at d root lower)) elsewhere)
    ∙ meets-below d root upper lower path step below

-- where it stands just above, they meet where they share a bit
pub meets-above : (d : Design) (root : CellId) (upper lower : NetAt) (path : List ℕ) (step : ℕ) → lower.path ≡ path ++ step ∷ []
    → pointwise nat_eq path upper.path ≡ true
    → share_bit step (ends_at d root upper) (ends_at d root lower) ≡ meets d root upper lower
meets-above d root upper lower path step below here =
    sym (ap (λ b. b && share_bit step (ends_at d root upper) (ends_at d root lower)) here)
    ∙ meets-below d root upper lower path step below
