-- A property as a line shows it: its key, `=` and its value.
use Rattle.std.specs.Prelude.{ℕ, Bool, true, false, List, ◌++◌, codes}
use Rattle.std.specs.Fmt.{signed_decimal}
use Rattle.edif_spec.specs.Canonical.{string_text}
use Rattle.netlist_schema.specs.Types.{Num, Property, Value}
use Rattle.netlist_schema.specs.declared.property.Num.TheVariants as numbers
use Rattle.netlist_schema.specs.declared.property.Value.TheVariants as values

-- a number, or a mantissa and an exponent with `e` between them
abbrev pub number_text : Num → List ℕ
number_text (numbers.Int z) = signed_decimal z
number_text (numbers.Scaled m x) = signed_decimal m ++ codes "e" ++ signed_decimal x

-- `true` or `false`
abbrev pub boolean_text : Bool → List ℕ
boolean_text true = codes "true"
boolean_text false = codes "false"

-- a boolean, an integer, `n` and a number, or a string as a file spells it
abbrev pub value_text : Value → List ℕ
value_text (values.Boolean b) = boolean_text b
value_text (values.Integer z) = signed_decimal z
value_text (values.Number n) = codes "n" ++ number_text n
value_text (values.Text text) = string_text text

-- the key without `&`, `=` and the value
abbrev pub property_text : Property → List ℕ
property_text p = p.key.id ++ codes "=" ++ value_text p.value
