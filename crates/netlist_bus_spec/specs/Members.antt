-- The nets of an array: their names.
use Rattle.std.specs.Prelude.{ℕ, zero, suc, List, [], ◌∷◌, ◌++◌, Some, unwrap_or, decimal}
use Rattle.netlist_schema.specs.Types.{Name}

-- the identifier of member k of `d`: `d_k_`
abbrev pub member_id : List ℕ → ℕ → List ℕ
member_id d k = d ++ (95 ∷ (decimal k ++ 95 ∷ []))

-- the shown text of member k of a text `D`: `D[k]`
abbrev pub member_text : List ℕ → ℕ → List ℕ
member_text text k = text ++ (91 ∷ (decimal k ++ 93 ∷ []))

-- the displayed text of a name: what is shown, or else the identifier
abbrev pub displayed : Name → List ℕ
displayed name = unwrap_or name.shown name.id

-- the name of the net of number k of an array with this name
abbrev pub member_name : Name → ℕ → Name
member_name name k = record { id = member_id name.id k; shown = Some (member_text (displayed name) k) }

-- so many values by their numbers, from this number on
abbrev pub numbered : {A : Type 0} → (ℕ → A) → ℕ → ℕ → List A
numbered f k zero = []
numbered f k (suc count) = f k ∷ numbered f (suc k) count
