-- The order of occurrences, and of their nets.
use Rattle.std.specs.Prelude.{◌≡◌, ◌<◌, ◌⊎◌, ℕ, List, [], ◌∷◌}
use Rattle.flat_spec.specs.declared.item.NetAt.{NetAt}

-- an occurrence comes before those below it, and what is below one instance before what is below a later one
abbrev pub PathBefore : List ℕ → List ℕ → Type 0
PathBefore [] [] = ⊥
PathBefore [] (j ∷ q) = Unit {0}
PathBefore (i ∷ p) [] = ⊥
PathBefore (i ∷ p) (j ∷ q) = (i < j) ⊎ ((i ≡ j) × PathBefore p q)

-- nets come in the order of their occurrences, and within one in the order of the contents
abbrev pub NetBefore : NetAt → NetAt → Type 0
NetBefore x y = PathBefore x.path y.path ⊎ ((x.path ≡ y.path) × (x.net < y.net))
