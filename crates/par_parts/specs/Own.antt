-- The items that an occurrence has of its own, where it is not the top.
use Rattle.std.specs.Prelude.{ℕ, ◌+◌, length, is_none, if◌then◌else◌}
use Rattle.std.specs.Option.{option_map_or}
use Rattle.netlist_schema.specs.Design.{Design, bit_count, cell_at, nets_of}
use Rattle.netlist_schema.specs.Types.{CellBody, CellId}

-- the nets of a cell, or the bits of a leaf
abbrev pub body_count : CellBody → ℕ
body_count body = if is_none body.contents then bit_count body else length (nets_of body)

-- the occurrence itself, and its nets or pins
abbrev pub own_count : Design → CellId → ℕ
own_count d c = option_map_or body_count (cell_at d c) 0 + 1

-- the bits of a cell with contents, whose pins are shown at the top alone
abbrev pub inner_bits : CellBody → ℕ
inner_bits body = if is_none body.contents then 0 else bit_count body

abbrev pub top_bits : Design → CellId → ℕ
top_bits d c = option_map_or inner_bits (cell_at d c) 0
