-- Finite lists in which each two neighbours are related.
use Rattle.std.specs.Prelude.{◌≡◌, List, [], ◌∷◌}

-- from x over each element of the list to z, every one is related to the next
abbrev pub Leads : {A : Type 0} → (A → A → Type 0) → A → List A → A → Type 0
Leads R x [] z = x ≡ z
Leads R x (y ∷ ys) z = R x y × Leads R y ys z

-- some finite list leads from x to z
abbrev pub Chain : {A : Type 0} → (A → A → Type 0) → A → A → Type 0
Chain {A} R x z = (via : List A) × Leads R x via z
