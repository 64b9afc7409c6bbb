-- What a rule keeps.
use Rattle.std.specs.Prelude.{◌≡◌, None}
use Rattle.netlist_schema.specs.Design.{Design}
use Rattle.netlist_schema.specs.Valid.{IsValid}
use Rattle.edit_rules_spec.specs.Edit.{edited}
use Rattle.edit_rules_spec.specs.Rule.{Rule, first}

-- what is changed leaves a valid design, where it is not refused
abbrev pub KeepsValid : (Design → Rule) → Type 0
KeepsValid rule = (d : Design) → IsValid d → first (rule d).refusals ≡ None → IsValid (edited d (rule d).edits)
