-- Facts for the elements of a list by those before them.
use Rattle.std.specs.Prelude.{List, [], ◌∷◌, ◌++◌}

-- a fact for each element, by those before it
abbrev pub AllAfter : {A : Type 0} → (List A → A → Type 0) → List A → List A → Type 0
AllAfter P before [] = Unit {0}
AllAfter P before (x ∷ xs) = P before x × AllAfter P (before ++ x ∷ []) xs
