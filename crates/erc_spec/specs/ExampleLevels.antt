-- A net that is driven on two levels of the hierarchy, and what is found below the top.
use Rattle.std.specs.Prelude.{◌≡◌, [], ◌∷◌, codes}
use Rattle.netlist_schema.specs.Design.{Design}
use Rattle.netlist_schema.specs.declared.cell.Direction.TheVariants.{Input, Output}
use Rattle.flat_spec.specs.ExampleParts.{named, id_of, scalar, own_port, on_port, inst, net, leaf, body, lib, top}
use Rattle.flat_spec.specs.Paths.{at_path}
use Rattle.flat_lines_spec.specs.Example.{lines}
use Rattle.erc_spec.specs.Findings.{findings}
use Rattle.erc_spec.specs.Lines.{findings_text}
use Rattle.erc_spec.specs.declared.finding.Finding.TheVariants.{Undriven, Many, Open}

-- the output of the box leads to the gate in it, and outside to another gate and to the load; no net leads to the input of the gate in it
abbrev pub levels : Design
levels = record {
  title = named (codes "e");
  libs =
      lib (codes "w") (
      leaf (codes "gate") (scalar (codes "y") Output ∷ scalar (codes "a") Input ∷ [])
      ∷ leaf (codes "load") (scalar (codes "a") Input ∷ [])
      ∷ body (codes "box") (scalar (codes "out") Output ∷ []) (inst (codes "g") (id_of 0 0) [] ∷ inst (codes "l") (id_of 0 1) [] ∷ [])
      (net (codes "loose") (on_port 1 0 ∷ []) ∷ net (codes "inner") (own_port 0 ∷ on_port 0 0 ∷ []) ∷ [])
      ∷ body (codes "T") [] (inst (codes "b") (id_of 0 2) [] ∷ inst (codes "g") (id_of 0 0) [] ∷ inst (codes "l") (id_of 0 1) [] ∷ [])
      (net (codes "outer") (on_port 0 0 ∷ on_port 1 0 ∷ on_port 2 0 ∷ []) ∷ [])
      ∷ []
      )
      ∷ [];
  top = top (codes "T") (id_of 0 3) [];
  notes = [];
}

-- both gates drive the net of the top; nothing drives the other net of the box; and no net joins the inputs of the two gates
abbrev pub LevelsAreFound : Type 0
LevelsAreFound =
    findings levels
    ≡ Many (at_path [] 0) 2 ∷ Undriven (at_path (0 ∷ []) 0) ∷ Open (0 ∷ 0 ∷ []) 1 0 ∷ Open (1 ∷ []) 1 0 ∷ []

abbrev pub LevelsAreTold : Type 0
LevelsAreTold = findings_text levels ≡ lines (
    codes "many / outer 2"
    ∷ codes "undriven /b loose"
    ∷ codes "open /b/g a 0"
    ∷ codes "open /g a 0"
    ∷ codes "end"
    ∷ [])
