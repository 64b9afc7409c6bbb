use Rattle.std.proofs.Common.{◌≡◌, [], arith, ap, length, ◌∙◌}
use Rattle.std.proofs.lemmas.List.{length-map}
use Rattle.netlist_schema.specs.Names.{cell_names}
use Rattle.netlist_schema.specs.Types.{CellBody}
use Rattle.db_version.proofs.Parts.{all_of, part_behind}
use Rattle.db_version.proofs.directory.Directory.of.Goals as goal
use Rattle.db_version.proofs.directory.Directory.of.Goals.{In_ok-parts}

names_are : (c : In_ok-parts) → all_of c.in_ok-parts.parts.items ≡ cell_names c.args.cells.now
names_are c = part_behind c.in_ok-parts.parts.items [] c.in_ok-names.names c.in_ok-parts.ensures ∙ c.in_ok-names.ensures

pub invariant_of-result : goal.invariant_of-result
invariant_of-result c =
    let long = ap length (names_are c) in record {
      counted = omega (arith, long, length-map c.args.cells.now (λ (b : CellBody). b.name.id));
      few = omega (arith, c.requires.few);
    }

pub returns : goal.returns
returns c = names_are c
