-- The ports among which the ends of nets have their places.
use Rattle.std.specs.Prelude.{◌≡◌, ◌<◌, ℕ, List, [], Option, Some, None, drop, length, option_map, slice_get, unwrap_or}
use Rattle.netlist_schema.specs.Design.{Design, cell_at, insts_of, nets_of}
use Rattle.netlist_schema.specs.Types.{CellBody, CellId, Inst, Port}
use Rattle.netlist_bus_spec.specs.Runs.{run_width}

-- the ports of a cell, none where there is no such cell
abbrev pub ports_at : Design → CellId → List Port
ports_at d id = unwrap_or (option_map (λ (body : CellBody). body.ports) (cell_at d id)) []

-- the cell's own ports, or those of the cell of one of its instances
abbrev pub ports_among : Design → List Port → List Inst → Option ℕ → List Port
ports_among d own insts None = own
ports_among d own insts (Some place) = unwrap_or (option_map (λ (inst : Inst). ports_at d inst.of) (slice_get insts place)) []

-- a net of a cell of the design
pub record HasNet (d : Design) (cell : CellId) (net : ℕ) : Type 0 where
  pub body : CellBody
  pub there : cell_at d cell ≡ Some body
  pub within : net < length (nets_of body)

-- the greatest width of the runs that begin at a net of a cell, 1 where none does
abbrev pub width_from : Design → CellBody → ℕ → ℕ
width_from d body net = run_width (ports_among d body.ports (insts_of body)) (drop net (nets_of body))

abbrev pub width_at : Design → CellId → ℕ → ℕ
width_at d cell net = unwrap_or (option_map (λ (body : CellBody). width_from d body net) (cell_at d cell)) 1
