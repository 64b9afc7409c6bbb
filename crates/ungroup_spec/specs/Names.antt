-- Names for what moves up out of an instance: the instance's identifier before its own, and a number behind it where that is taken.
use Rattle.std.specs.Prelude.{ℕ, Bool, not, List, [], ◌∷◌, ◌++◌, Some, length, map, find, unwrap_or, codes, decimal}
use Rattle.std.specs.List.{list_any, range_with_len}
use Rattle.netlist_schema.specs.Types.{Name}
use Rattle.edit_rules_spec.specs.Find.{is_same}

-- one of these names is the same, where the case of letters is ignored
abbrev pub is_taken : List (List ℕ) → List ℕ → Bool
is_taken taken name = list_any (is_same name) taken

-- the name with a number
abbrev pub numbered : List ℕ → ℕ → List ℕ
numbered name n = name ++ codes "_" ++ decimal n

-- the name itself, and then with as many numbers, from 1, as there are names that are taken; one of these is free
abbrev pub candidates : List (List ℕ) → List ℕ → List (List ℕ)
candidates taken name = name ∷ map (numbered name) (range_with_len 1 (length taken))

-- the first of them that is free
abbrev pub free_name : List (List ℕ) → List ℕ → List ℕ
free_name taken name = unwrap_or (find (λ candidate. not (is_taken taken candidate)) (candidates taken name)) name

-- what is displayed for a name: its text, or else its identifier
abbrev pub displayed : Name → List ℕ
displayed name = unwrap_or name.shown name.id

-- the name of what moves up out of an instance, where these identifiers are taken
abbrev pub name_up : List (List ℕ) → Name → Name → Name
name_up taken inst name = record {
  id = free_name taken (inst.id ++ codes "_" ++ name.id);
  shown = Some (displayed inst ++ codes "/" ++ displayed name);
}

-- all of these with their names for where they move up to; each name is taken for those that follow
abbrev pub named_up : {X : Type 0} → (X → Name) → (Name → X → X) → List (List ℕ) → Name → List X → List X
named_up name_of with_name taken inst [] = []
named_up name_of with_name taken inst (x ∷ xs) =
    let name = name_up taken inst (name_of x) in
    with_name name x ∷ named_up name_of with_name (name.id ∷ taken) inst xs
