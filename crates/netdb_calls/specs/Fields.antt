-- The numbers of fields.
use Rattle.std.specs.Prelude.{ℕ, Option, Some, None, if◌then◌else◌, ◌==◌}
use Rattle.netdb_view.specs.declared.fields.Field.{Field}
use Rattle.netdb_view.specs.declared.fields.Field.TheVariants as field

abbrev pub field_at : ℕ → Option Field
field_at number =
    if number == 0 then Some field.Kind
    else if number == 1 then Some field.Path
    else if number == 2 then Some field.Library
    else if number == 3 then Some field.Cell
    else if number == 4 then Some field.Net
    else if number == 5 then Some field.Port
    else if number == 6 then Some field.Bit
    else if number == 7 then Some field.Direction
    else if number == 8 then Some field.FirstPath
    else if number == 9 then Some field.FirstNet
    else None
