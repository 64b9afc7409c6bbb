-- What holds of printed reports.
use Rattle.std.specs.Prelude.{◌≡◌, ◌<◌, ◌^◌, ℕ, List, length}
use Rattle.netlist_schema.specs.Design.{Design}
use Rattle.db_spec.specs.declared.event.Event.{Event}
use Rattle.script_spec.specs.Report.{Prints}
use Rattle.script_spec.specs.declared.script.Step.{Step}

-- A text is the report of one history at most: its lines say who calls, the scripts say what, and a call has one answer. Callers are
-- numbers of 64 bits.
abbrev pub OnePrinted : Type 0
OnePrinted = (d : Design) (scripts : List (List Step)) (text : List ℕ) (history other : List Event)
    → length scripts < 2 ^ 64 → Prints d scripts text history → Prints d scripts text other → history ≡ other
