-- A further form of a list of forms that define names.
use Rattle.std.specs.Prelude.{◌≡◌, ℕ, List, [], ◌∷◌, ◌++◌, None, Some}
use Rattle.edif_spelling_spec.specs.Tree.{Bare, Placed, bare}
use Rattle.edif_spec.specs.Faults.{defined}
use Rattle.edif_spec.specs.declared.fault.MeaningFault.{MeaningFault}
use Rattle.edif_parts.specs.Names.{DefinesName, IsAgain}

-- the form means a value, which has the property and stands behind the others, and defines its name, which no other has
pub record Adds {A : Type 0} (M : Bare → A → Type 0) (V : A → Type 0) (g : A → List ℕ) (t : Placed) (old new : List A) (names more : List (List ℕ × ℕ)) : Type 0 where
  pub value : A
  pub place : ℕ
  pub means : M (bare t) value
  pub valid : V value
  pub at : defined t ≡ Some (g value, place)
  pub name : DefinesName names (g value) place more None
  pub list : new ≡ old ++ value ∷ []

-- the form defines a name that another has
pub record DefinesAgain (names : List (List ℕ × ℕ)) (t : Placed) (f : MeaningFault) : Type 0 where
  pub name : List ℕ
  pub place : ℕ
  pub defines : defined t ≡ Some (name, place)
  pub again : IsAgain names name place f

-- the form means a value, which has the property and is the only one of the list
pub record MeansOne {A : Type 0} (M : Bare → A → Type 0) (V : A → Type 0) (t : Placed) (xs : List A) : Type 0 where
  pub value : A
  pub means : M (bare t) value
  pub valid : V value
  pub list : xs ≡ value ∷ []
