-- Which histories print a report, and which scripts can't walk.
use Rattle.std.specs.Prelude.{◌≡◌, ℕ, None, List}
use Rattle.netlist_schema.specs.Design.{Design}
use Rattle.db_spec.specs.declared.event.Event.{Event}
use Rattle.script_spec.specs.Headline.{SomeWalks}
use Rattle.script_spec.specs.Report.{Prints}
use Rattle.script_spec.specs.declared.script.Step.{Step}

-- a script walks, and the design has no top
abbrev pub CannotWalk : Design → List (List Step) → Type 0
CannotWalk d scripts = SomeWalks scripts × (d.top ≡ None)

-- ---- which histories print a report

-- if any, this one does
abbrev pub PrintsOnly : Design → List (List Step) → List ℕ → List Event → Type 0
PrintsOnly d scripts report history = (other : List Event) → Prints d scripts report other → other ≡ history

-- a history, which prints the report and is the only one that does; by what it is to print a report it is legal, and the text is its report
pub record PrintsSome (d : Design) (scripts : List (List Step)) (report : List ℕ) : Type 0 where
  pub history : List Event
  pub prints : Prints d scripts report history
  pub only : PrintsOnly d scripts report history

-- no history does
abbrev pub PrintsNone : Design → List (List Step) → List ℕ → Type 0
PrintsNone d scripts report = (history : List Event) → ¬ Prints d scripts report history
