-- Names in order, each with the place where it is defined.
use Rattle.std.specs.Prelude.{◌≡◌, ℕ, suc, List, [], ◌∷◌, ◌++◌, map, Option, None, Some}
use Rattle.std.specs.List.{Contains, AllZip}
use Rattle.edif_spelling_spec.specs.Tree.{Placed}
use Rattle.edif_spec.specs.Faults.{defined}
use Rattle.edif_spec.specs.Means.{Found, Absent, Several}
use Rattle.edif_spec.specs.Means as edif
use Rattle.edif_spec.specs.declared.fault.ClashKind.TheVariants.{Duplicate}
use Rattle.edif_spec.specs.declared.fault.MeaningFault.{MeaningFault}
use Rattle.edif_spec.specs.declared.fault.MeaningFault.TheVariants.{Clash}
use Rattle.edif_names.specs.Scope.{Definition}
use Rattle.edif_names.specs.declared.scope.Meant.{Meant}
use Rattle.edif_names.specs.declared.scope.Meant.TheVariants as answers

-- the names alone
abbrev pub ids : List (List ℕ × ℕ) → List (List ℕ)
ids ns = map (λ n. n.0) ns

-- the definitions are numbered in order, the first one by this number
abbrev pub AreNumbered : ℕ → List Definition → Type 0
AreNumbered n [] = Unit {0}
AreNumbered n (d ∷ ds) = (d.id ≡ n) × AreNumbered (suc n) ds

-- defining a name adds it where no equal one is there; else it tells the place of that one, and changes nothing
abbrev pub DefinesName : List (List ℕ × ℕ) → List ℕ → ℕ → List (List ℕ × ℕ) → Option ℕ → Type 0
DefinesName old name place new None = (¬ Contains (ids old) name) × (new ≡ old ++ (name, place) ∷ [])
DefinesName old name place new (Some earlier) = Contains old (name, earlier) × (new ≡ old)

-- a name that is defined again, where an equal one is
abbrev pub IsAgain : List (List ℕ × ℕ) → List ℕ → ℕ → MeaningFault → Type 0
IsAgain old name place f = (earlier : ℕ) × Contains old (name, earlier) × (f ≡ Clash Duplicate place earlier)

-- an answer is what a reference means
abbrev pub Tells : edif.Meant → Meant → Type 0
Tells (Found place) (answers.Found id) = place ≡ id
Tells Absent answers.Absent = Unit {0}
Tells Several answers.Several = Unit {0}
Tells _ _ = ⊥

-- each form defines the name in its place
abbrev pub Define : List Placed → List (List ℕ × ℕ) → Type 0
Define ts ns = AllZip (λ t n. defined t ≡ Some n) ts ns
