-- A scope: names that are defined one after another, each with a number and a place.
use Rattle.std.specs.Prelude.{◌≡◌, ℕ, List, [], ◌∷◌, ◌++◌, map, Option, None, Some, option_map, slice_get, if◌then◌else◌}
use Rattle.edif_spec.specs.Means.{equal, Found, Absent, Several}
use Rattle.edif_spec.specs.Means as edif
use Rattle.edif_names.specs.Folded.{Numbered}
use Rattle.edif_names.specs.declared.scope.Defined.{Defined}
use Rattle.edif_names.specs.declared.scope.Defined.TheVariants as outcomes
use Rattle.edif_names.specs.declared.scope.Entry.{Entry}
use Rattle.edif_names.specs.declared.scope.Meant.{Meant}
use Rattle.edif_names.specs.declared.scope.Meant.TheVariants as answers

-- a name, the number that it stands for, and the place where it is defined
pub record Definition : Type 0 where
  pub name : List ℕ
  pub id : ℕ
  pub place : ℕ

-- the names, in order
abbrev pub names : List Definition → List (List ℕ)
names ds = map (λ d. d.name) ds

-- the names of a table in order, each with its number
abbrev pub numbered : List (List ℕ × Entry) → List Numbered
numbered es = map (λ e. record { name = e.0; id = e.1.id }) es

-- the first definition of a name that is equal byte for byte
abbrev pub equal_to : List ℕ → List Definition → Option Definition
equal_to name [] = None
equal_to name (d ∷ ds) = if equal name d.name then Some d else equal_to name ds

-- Defining a name adds it where none before is equal, else tells the place of that one and changes nothing.
abbrev pub Defines : List Definition → Definition → List Definition → Defined → Type 0
Defines old d new outcomes.Added = (equal_to d.name old ≡ None) × (new ≡ old ++ d ∷ [])
Defines old d new (outcomes.Earlier place) = (option_map (λ e. e.place) (equal_to d.name old) ≡ Some place) × (new ≡ old)

-- An answer says what a reference means, with the number of the definition in that place.
abbrev pub Says : List Definition → edif.Meant → Meant → Type 0
Says ds (Found place) (answers.Found id) = option_map (λ d. d.id) (slice_get ds place) ≡ Some id
Says ds Absent answers.Absent = Unit {0}
Says ds Several answers.Several = Unit {0}
Says ds _ _ = ⊥
