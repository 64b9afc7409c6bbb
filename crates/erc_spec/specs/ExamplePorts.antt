-- Ports of the top: an input that no net joins, one that a net leads to a leaf, and an output to which nothing leads.
use Rattle.std.specs.Prelude.{◌≡◌, [], ◌∷◌, codes}
use Rattle.netlist_schema.specs.Design.{Design}
use Rattle.netlist_schema.specs.declared.cell.Direction.TheVariants.{Input, Output}
use Rattle.flat_spec.specs.ExampleParts.{named, id_of, scalar, own_port, on_port, inst, net, leaf, body, lib, top}
use Rattle.flat_spec.specs.Paths.{at_path}
use Rattle.erc_spec.specs.Findings.{findings}
use Rattle.erc_spec.specs.declared.finding.Finding.TheVariants.{Undriven}

abbrev pub ports : Design
ports = record {
  title = named (codes "e");
  libs =
      lib (codes "w") (
      leaf (codes "load") (scalar (codes "a") Input ∷ [])
      ∷ body (codes "T") (scalar (codes "unused") Input ∷ scalar (codes "in") Input ∷ scalar (codes "out") Output ∷ [])
      (inst (codes "l") (id_of 0 0) [] ∷ [])
      (net (codes "lone") (own_port 2 ∷ []) ∷ net (codes "fed") (own_port 1 ∷ on_port 0 0 ∷ []) ∷ [])
      ∷ []
      )
      ∷ [];
  top = top (codes "T") (id_of 0 1) [];
  notes = [];
}

-- no pin drives the net at the output of the top; the input of the top drives the other, and one that no net joins is no input of a leaf
abbrev pub PortsAreFound : Type 0
PortsAreFound = findings ports ≡ Undriven (at_path [] 0) ∷ []
