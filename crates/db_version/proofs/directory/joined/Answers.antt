use Rattle.std.proofs.Common.{◌≡◌, ℕ, ◌++◌, List, map, sym, ap, subst, ◌∙◌}
use Rattle.std.specs.Arc.{arc_value}
use Rattle.netlist_schema.specs.Names.{AreDistinct, cell_names}
use Rattle.db_version.proofs.Parts.{all_of, distinct_before}
use Rattle.db_version.proofs.directory.joined.Goals as goal
use Rattle.db_version.proofs.directory.joined.Goals.{In_ok-add_parts}

pub add_parts-requires : goal.add_parts-requires
add_parts-requires c =
    subst (λ (xs : List (List ℕ)). AreDistinct (xs ++ all_of c.args.parts.now)) (sym c.new-names.ensures) (distinct_before (all_of c.args.parts.now) (cell_names (map arc_value c.args.cells.now)) c.requires)

added : (c : In_ok-add_parts) → c.add_parts.new.names ≡ all_of c.args.parts.now
added c = c.in_ok-add_parts.ensures ∙ ap (λ (xs : List (List ℕ)). xs ++ all_of c.args.parts.now) c.new-names.ensures

pub add_cells-requires : goal.add_cells-requires
add_cells-requires c = subst (λ (xs : List (List ℕ)). AreDistinct (xs ++ cell_names (map arc_value c.args.cells.now))) (sym (added (goal.at.add_cells-requires c).In_ok-add_parts)) c.requires

pub returns : goal.returns
returns c = c.in_ok-add_cells.ensures ∙ ap (λ (xs : List (List ℕ)). xs ++ cell_names (map arc_value c.args.cells.now)) (added (goal.at.returns c).In_ok-add_parts)
