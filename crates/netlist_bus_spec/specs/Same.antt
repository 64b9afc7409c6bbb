-- Equality of names and of properties, as tests.
use Rattle.std.specs.Prelude.{ℕ, List, Bool, true, false, ◌&&◌, nat_eq, Option, Some, None}
use Rattle.std.specs.Cmp.Lexicographic.{pointwise}
use Rattle.std.specs.Ordering.{int_eq}
use Rattle.netlist_schema.specs.Types.{Name, Num, Property, Value}
use Rattle.netlist_schema.specs.declared.property.Num.TheVariants as numbers
use Rattle.netlist_schema.specs.declared.property.Value.TheVariants as values

-- the same bytes
abbrev pub same_bytes : List ℕ → List ℕ → Bool
same_bytes a b = pointwise nat_eq a b

-- the same text, or none both times
abbrev pub same_text : Option (List ℕ) → Option (List ℕ) → Bool
same_text None None = true
same_text None (Some b) = false
same_text (Some a) None = false
same_text (Some a) (Some b) = same_bytes a b

-- the same identifier with the same shown text
abbrev pub same_name : Name → Name → Bool
same_name a b = same_bytes a.id b.id && same_text a.shown b.shown

-- the same number, as written
abbrev pub same_number : Num → Num → Bool
same_number (numbers.Int y) (numbers.Int z) = int_eq y z
same_number (numbers.Int y) (numbers.Scaled n f) = false
same_number (numbers.Scaled m e) (numbers.Int z) = false
same_number (numbers.Scaled m e) (numbers.Scaled n f) = int_eq m n && int_eq e f

-- the same truth value
abbrev pub same_truth : Bool → Bool → Bool
same_truth true true = true
same_truth true false = false
same_truth false true = false
same_truth false false = true

-- the same value
abbrev pub same_value : Value → Value → Bool
same_value (values.Boolean a) (values.Boolean b) = same_truth a b
same_value (values.Integer y) (values.Integer z) = int_eq y z
same_value (values.Number m) (values.Number n) = same_number m n
same_value (values.Text a) (values.Text b) = same_bytes a b
same_value _ _ = false

-- the same property: its key, its value, its owner
abbrev pub same_property : Property → Property → Bool
same_property p q = same_name p.key q.key && (same_value p.value q.value && same_text p.owner q.owner)

-- the same properties, in order
abbrev pub same_properties : List Property → List Property → Bool
same_properties ps qs = pointwise same_property ps qs
