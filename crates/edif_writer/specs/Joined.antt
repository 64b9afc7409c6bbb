-- What a net joins at an end.
use Rattle.std.specs.Prelude.{ℕ, Option, Some, None}
use Rattle.edif_spec.specs.Design as design
use Rattle.edif_spec.specs.Nets.{Stretch, bit_of, whole_of}

-- all bits of its port where the net has an array, which has the width of the port; its bit where the net has none
abbrev pub stretch_of : Option ℕ → design.End → Stretch
stretch_of None = bit_of
stretch_of (Some width) = whole_of width
