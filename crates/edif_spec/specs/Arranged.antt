-- The design with the cells of each library in the order in which they are written, and the ids renumbered to fit.
use Rattle.std.specs.Prelude.{ℕ, suc, List, [], ◌∷◌, map, filter_map, slice_get, option_map, unwrap_or, nat_eq, if◌then◌else◌}
pub use Rattle.netlist_order_spec.specs.Order.{is_written, is_ready, first_ready, order_from, order_of}
use Rattle.edif_spec.specs.Canonical.{text_as_listed}
use Rattle.edif_spec.specs.Design as design

-- the order of each library, from a library on
abbrev pub orders_from : ℕ → List design.Lib → List (List ℕ)
orders_from own [] = []
orders_from own (l ∷ ls) = order_of own l.cells ∷ orders_from (suc own) ls

-- where a cell stands in an order
abbrev pub place_in : ℕ → List ℕ → ℕ
place_in s [] = 0
place_in s (k ∷ ks) = if nat_eq s k then 0 else suc (place_in s ks)

-- a cell by its place in the order of its library
abbrev pub new_id : List (List ℕ) → design.CellId → design.CellId
new_id orders id = record { lib = id.lib; slot = unwrap_or (option_map (place_in id.slot) (slice_get orders id.lib.0)) id.slot }

-- an instance, with its cell by that place
abbrev pub new_inst : List (List ℕ) → design.Inst → design.Inst
new_inst orders i = record { name = i.name; of = new_id orders i.of; designator = i.designator; properties = i.properties }

-- contents, with each instance so
abbrev pub new_contents : List (List ℕ) → design.Contents → design.Contents
new_contents orders c = record { insts = map (new_inst orders) c.insts; nets = c.nets }

-- a cell, with its contents so
abbrev pub new_cell : List (List ℕ) → design.CellBody → design.CellBody
new_cell orders c = record {
  name = c.name;
  kind = c.kind;
  properties = c.properties;
  view = c.view;
  view_properties = c.view_properties;
  interface_properties = c.interface_properties;
  ports = c.ports;
  contents = option_map (new_contents orders) c.contents;
}

-- the top, with its cell so
abbrev pub new_top : List (List ℕ) → design.TopHead → design.TopHead
new_top orders t = record { name = t.name; cell = new_id orders t.cell; properties = t.properties }

-- the cells of a library in an order
abbrev pub new_cells : List (List ℕ) → List design.CellBody → List ℕ → List design.CellBody
new_cells orders cells order = filter_map (λ slot. option_map (new_cell orders) (slice_get cells slot)) order

-- the libraries from one on, each with its cells in order
abbrev pub new_libs : List (List ℕ) → ℕ → List design.Lib → List design.Lib
new_libs orders own [] = []
new_libs orders own (l ∷ ls) = record { head = l.head; cells = new_cells orders l.cells (order_of own l.cells) } ∷ new_libs orders (suc own) ls

-- the design with the cells of each library in the order in which they are written
abbrev pub arranged : design.Design → design.Design
arranged d = let orders = orders_from 0 d.libs in
    record { title = d.title; libs = new_libs orders 0 d.libs; top = option_map (new_top orders) d.top; notes = d.notes }

-- the canonical text of a design: its cells stand in arranged order
abbrev pub canonical_text : design.Design → List ℕ
canonical_text d = text_as_listed (arranged d)
