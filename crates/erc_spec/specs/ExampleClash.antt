-- Two gates whose outputs are joined by one net, which leads to one of their inputs.
use Rattle.std.specs.Prelude.{◌≡◌, [], ◌∷◌, codes}
use Rattle.netlist_schema.specs.Design.{Design}
use Rattle.netlist_schema.specs.declared.cell.Direction.TheVariants.{Input, Output}
use Rattle.flat_spec.specs.ExampleParts.{named, id_of, scalar, on_port, inst, net, leaf, body, lib, top}
use Rattle.flat_spec.specs.Paths.{at_path}
use Rattle.flat_lines_spec.specs.Example.{lines}
use Rattle.erc_spec.specs.Findings.{findings}
use Rattle.erc_spec.specs.Lines.{findings_text}
use Rattle.erc_spec.specs.declared.finding.Finding.TheVariants.{Many, Open}

abbrev pub clash : Design
clash = record {
  title = named (codes "e");
  libs =
      lib (codes "w") (
      leaf (codes "G") (scalar (codes "y") Output ∷ scalar (codes "a") Input ∷ [])
      ∷ body (codes "T") [] (inst (codes "g") (id_of 0 0) [] ∷ inst (codes "h") (id_of 0 0) [] ∷ [])
      (net (codes "n") (on_port 0 0 ∷ on_port 1 0 ∷ on_port 0 1 ∷ []) ∷ [])
      ∷ []
      )
      ∷ [];
  top = top (codes "T") (id_of 0 1) [];
  notes = [];
}

-- two strong pins at the net, and one input that no net joins
abbrev pub ClashIsFound : Type 0
ClashIsFound = findings clash ≡ Many (at_path [] 0) 2 ∷ Open (1 ∷ []) 1 0 ∷ []

abbrev pub ClashIsTold : Type 0
ClashIsTold = findings_text clash ≡ lines (
    codes "many / n 2"
    ∷ codes "open /h a 0"
    ∷ codes "end"
    ∷ [])
