-- A design that is made from a number n: a row of n inverters, and the row placed twice, the one behind the other.
use Rattle.std.specs.Prelude.{◌+◌, ◌*◌, ◌%◌, ℕ, zero, suc, List, [], ◌∷◌, Option, Some, None, true, false, cond, nat_eq, codes, map, pos}
use Rattle.std.specs.Fmt.{decimal}
use Rattle.std.specs.List.{range_with_len}
use Rattle.netlist_schema.specs.Design.{Design}
use Rattle.netlist_schema.specs.Types.{CellBody, Contents, End, Inst, Net, Port}
use Rattle.netlist_schema.specs.declared.cell.CellKind.TheVariants.{Generic}
use Rattle.netlist_schema.specs.declared.cell.Direction.TheVariants.{Input, Output}
use Rattle.netlist_schema.specs.declared.property.Value.TheVariants.{Integer}
use Rattle.flat_spec.specs.ExampleParts.{named, id_of, scalar, own_port, on_port, inst, net, top}
use Rattle.edit_spec.specs.declared.ops.Op.{Op}
use Rattle.edit_spec.specs.declared.ops.Op.TheVariants.{SetProp}
use Rattle.edit_spec.specs.declared.ops.Target.TheVariants as target

-- the letter and the number in decimal digits
abbrev pub numbered : ℕ → ℕ → List ℕ
numbered letter k = letter ∷ decimal k

-- each cell has an input A and an output Y
abbrev pub ports : List Port
ports = scalar (codes "A") Input ∷ scalar (codes "Y") Output ∷ []

abbrev pub cell : List ℕ → Option Contents → CellBody
cell name contents = record {
  name = named name;
  kind = Generic;
  properties = [];
  view = named (codes "netlist");
  view_properties = [];
  interface_properties = [];
  ports = ports;
  contents = contents;
}

-- ---- the row

-- the inverter of number k is named i and the number
abbrev pub inverter_at : ℕ → Inst
inverter_at k = inst (numbered 105 k) (id_of 0 0) []

-- what the net of number k joins on its left: the input of the row, or the output of the inverter before
abbrev pub left_end : ℕ → End
left_end zero = own_port 0
left_end (suc k) = on_port k 1

-- and on its right: the input of the inverter behind, or the output of the row at the last net
abbrev pub right_end : ℕ → ℕ → End
right_end n k = cond (nat_eq k n) (own_port 1) (on_port k 0)

-- the net of number k is named n and the number
abbrev pub net_at : ℕ → ℕ → Net
net_at n k = net (numbered 110 k) (left_end k ∷ right_end n k ∷ [])

abbrev pub inverters : ℕ → List Inst
inverters n = map inverter_at (range_with_len 0 n)

-- one net more than inverters
abbrev pub row_nets : ℕ → List Net
row_nets n = map (net_at n) (range_with_len 0 (n + 1))

abbrev pub row : ℕ → CellBody
row n = cell (codes "row") (Some (record { insts = inverters n; nets = row_nets n }))

-- ---- the design

-- two rows: the output of the first is the input of the second
abbrev pub pair : CellBody
pair = cell (codes "top") (Some (record {
  insts = inst (codes "r0") (id_of 1 0) [] ∷ inst (codes "r1") (id_of 1 0) [] ∷ [];
  nets =
      net (codes "a") (own_port 0 ∷ on_port 0 0 ∷ [])
      ∷ net (codes "m") (on_port 0 1 ∷ on_port 1 0 ∷ [])
      ∷ net (codes "y") (on_port 1 1 ∷ own_port 1 ∷ [])
      ∷ [];
}))

abbrev pub generated : ℕ → Design
generated n = record {
  title = named (codes "gen");
  libs =
      record { head = record { name = named (codes "prims"); external = true }; cells = cell (codes "INV") None ∷ [] }
      ∷ record { head = record { name = named (codes "work"); external = false }; cells = row n ∷ pair ∷ [] }
      ∷ [];
  top = top (codes "gen") (id_of 1 1) [];
  notes = [];
}

-- ---- the edits

-- the edit of number k sets the property K of an inverter of the row to k; 7919 is a prime number, so the inverters come in turn
abbrev pub edit_at : ℕ → ℕ → Op
edit_at n k = SetProp
    (record { lib = codes "work"; cell = codes "row" })
    (target.Inst (numbered 105 ((7919 * k) % n)))
    (record { key = named (codes "K"); value = Integer (pos k); owner = None })
