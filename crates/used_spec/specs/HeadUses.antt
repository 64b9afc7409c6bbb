-- The uses of the last version of a history.
use Rattle.std.specs.Prelude.{List, ℕ}
use Rattle.netlist_schema.specs.Design.{Design}
use Rattle.db_spec.specs.declared.event.Event.{Event}
use Rattle.script_spec.specs.Report.{head_design}
use Rattle.used_spec.specs.Lines.{uses_text}

-- the lines of the uses of its design
abbrev pub head_uses_text : Design → List Event → List ℕ
head_uses_text d history = uses_text (head_design d history)
