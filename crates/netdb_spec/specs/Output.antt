-- What is written of a design.
use Rattle.std.specs.Prelude.{◌≡◌, ℕ, List, None}
use Rattle.netlist_schema.specs.Design.{Design}
use Rattle.edif_spec.specs.Arranged.{canonical_text}
use Rattle.flat_lines_spec.specs.Lines.{flattening_text}
use Rattle.erc_spec.specs.Lines.{findings_text}
use Rattle.used_spec.specs.Kept.{kept}
use Rattle.flat_csv_spec.specs.PinTable.{pin_table}
use Rattle.netdb_spec.specs.declared.command.Wanted.{Wanted}
use Rattle.netdb_spec.specs.declared.command.Wanted.TheVariants.{Text, Items, Pins, Used, Spread, Findings}

-- what is wanted of the design, as bytes
abbrev pub output : Wanted → Design → List ℕ
output Text d = canonical_text d
output (Items limit) d = flattening_text d limit
output Pins d = pin_table d
output Used d = canonical_text (kept d)
output (Spread workers) d = flattening_text d None
output Findings d = findings_text d

-- something is wanted that needs a top, and the design has none
abbrev pub LacksTop : Wanted → Design → Type 0
LacksTop Text d = ⊥
LacksTop (Items limit) d = d.top ≡ None
LacksTop Pins d = d.top ≡ None
LacksTop Used d = d.top ≡ None
LacksTop (Spread workers) d = d.top ≡ None
LacksTop Findings d = d.top ≡ None

-- the design has all that is wanted
abbrev pub HasTop : Wanted → Design → Type 0
HasTop wanted d = LacksTop wanted d → ⊥
