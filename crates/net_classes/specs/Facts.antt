-- What is kept of the nets of each cell, as plain lists.
use Rattle.std.specs.Prelude.{◌+◌, ℕ, List, [], Option, slice_get, option_and_then}
use Rattle.std.specs.Option.{option_map}
use Rattle.netlist_schema.specs.Types.{CellId}
use Rattle.flat_spec.specs.Paths.{Bit}
use Rattle.net_classes.specs.declared.joints.Joint.{Joint}
use Rattle.net_classes.specs.declared.tables.CellNets.{CellNets}

-- of one cell: for each port the number of own bits before it; for each own bit the net that joins it and the least own bit that is
-- connected with it; for each net the first net that is connected with it; and the bits of instances that nets join
pub record CellFacts : Type 0 where
  pub starts : List ℕ
  pub nets : List (Option ℕ)
  pub least : List (Option ℕ)
  pub firsts : List ℕ
  pub joints : List Joint

abbrev pub facts_of : CellNets → CellFacts
facts_of t = record {
  starts = t.starts.items;
  nets = t.own.items;
  least = t.least.items;
  firsts = t.firsts.items;
  joints = t.joints.items;
}

-- those of a cell of which nothing is known
abbrev pub no_facts : CellFacts
no_facts = record { starts = []; nets = []; least = []; firsts = []; joints = [] }

-- of all cells, by library and place
abbrev pub Facts : Type 0
Facts = List (List CellFacts)

-- those of a cell
abbrev pub facts_at : Facts → CellId → Option CellFacts
facts_at facts c = option_and_then (λ row. slice_get row c.slot) (slice_get facts c.lib.0)

-- what stands at a place of a list, none past its end
abbrev pub entry : List (Option ℕ) → ℕ → Option ℕ
entry answers place = option_and_then (λ answer. answer) (slice_get answers place)

-- the class that is kept for an own bit of a cell
abbrev pub class_at : Facts → CellId → ℕ → Option ℕ
class_at facts c bit = option_and_then (λ (f : CellFacts). entry f.least bit) (facts_at facts c)

-- the number of a bit among all own bits
abbrev pub number_of : List ℕ → Bit → Option ℕ
number_of starts b = option_map (λ start. start + b.bit) (slice_get starts b.port)

-- the first net that is connected with an own bit of the cell
abbrev pub first_in : CellFacts → Bit → Option ℕ
first_in f b = option_and_then (λ number. option_and_then (slice_get f.firsts) (entry f.nets number)) (number_of f.starts b)

abbrev pub first_at : Facts → CellId → Bit → Option ℕ
first_at facts c b = option_and_then (λ f. first_in f b) (facts_at facts c)
