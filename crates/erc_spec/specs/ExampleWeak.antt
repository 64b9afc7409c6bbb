-- Pins that lead both ways, and pins of which no direction is told.
use Rattle.std.specs.Prelude.{◌≡◌, List, ℕ, [], ◌∷◌, None, codes}
use Rattle.netlist_schema.specs.Design.{Design}
use Rattle.netlist_schema.specs.Types.{Port}
use Rattle.netlist_schema.specs.declared.cell.Direction.TheVariants.{Input, Output, Inout}
use Rattle.flat_spec.specs.ExampleParts.{named, id_of, scalar, on_port, inst, net, leaf, body, lib, top}
use Rattle.erc_spec.specs.Findings.{findings}

-- a port of one bit of which no direction is told
abbrev pub untold : List ℕ → Port
untold name = record { name = named name; array = None; direction = None; designator = None; properties = [] }

abbrev pub weak : Design
weak = record {
  title = named (codes "e");
  libs =
      lib (codes "w") (
      leaf (codes "pad") (scalar (codes "p") Inout ∷ [])
      ∷ leaf (codes "bare") (untold (codes "b") ∷ [])
      ∷ leaf (codes "gate") (scalar (codes "y") Output ∷ scalar (codes "a") Input ∷ [])
      ∷ body (codes "T") []
      (inst (codes "p") (id_of 0 0) [] ∷ inst (codes "q") (id_of 0 0) [] ∷ inst (codes "b") (id_of 0 1) [] ∷ inst (codes "g") (id_of 0 2) []
      ∷ [])
      (net (codes "pads") (on_port 0 0 ∷ on_port 3 0 ∷ on_port 1 0 ∷ []) ∷ net (codes "told") (on_port 2 0 ∷ on_port 3 1 ∷ []) ∷ [])
      ∷ []
      )
      ∷ [];
  top = top (codes "T") (id_of 0 3) [];
  notes = [];
}

-- two pads and one output at a net are one strong pin, and a pin without a direction may drive the other net
abbrev pub NothingIsFoundInWeak : Type 0
NothingIsFoundInWeak = findings weak ≡ []
