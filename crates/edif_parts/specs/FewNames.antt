-- Names that are compared one by one.
use Rattle.std.specs.Prelude.{ℕ, suc, Bool, true, false, List, [], ◌∷◌, Option, None, Some, if◌then◌else◌}

-- the place of the first name that passes, where the first of all has this place
abbrev pub first_from : ℕ → (List ℕ → Bool) → List (List ℕ) → Option ℕ
first_from i p [] = None
first_from i p (n ∷ ns) = if p n then Some i else first_from (suc i) p ns

-- whether one name alone passes, where one before these has passed or not
abbrev pub one_passes : Bool → (List ℕ → Bool) → List (List ℕ) → Bool
one_passes seen p [] = seen
one_passes seen p (n ∷ ns) = if p n then (if seen then false else one_passes true p ns) else one_passes seen p ns
