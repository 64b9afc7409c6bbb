-- Where names lead.
use Rattle.std.proofs.Common.{◌≡◌, ℕ, List, Option, Some, None, subst}
use Rattle.std.specs.Prelude.{IsSome}
use Rattle.std.proofs.lemmas.Bool.{false≢true}
use Rattle.netlist_schema.specs.Design.{Design}
use Rattle.netlist_schema.specs.Types.{CellId}
use Rattle.netlist_schema.specs.Valid.{IsValid}
use Rattle.ask_names.specs.Places.{path_named}
use Rattle.ask_names.specs.Told.{PathsAreTold}
use Rattle.netdb_questions.specs.Named.{LeadsTo}

pub leads : (d : Design) (text path : List ℕ) → IsValid d → PathsAreTold → path_named d text ≡ Some path → LeadsTo d text path
leads d text path valid told named = record { named = named; there = ((told d text path valid).0 named).0 }

-- there is an occurrence where there is one
pub not_none : (o : Option CellId) → IsSome o → o ≡ None → ⊥
not_none o some none = false≢true (subst IsSome none some)
