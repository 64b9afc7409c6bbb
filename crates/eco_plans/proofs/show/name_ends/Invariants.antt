use Rattle.std.proofs.Common.{◌≡◌, map, take}
use Rattle.std.specs.Prelude.{option_to_list}
use Rattle.std.specs.List.{flat_map}
use Rattle.edit_cells.specs.State.{HasRead}
use Rattle.eco_plans.specs.Shown.{AreFacesOf, seen_end, seen_name}
use Rattle.eco_plans.proofs.show.name_ends.Given as goal

-- the names so far, and what was read for them
abbrev pub invariant-loop-at : goal.invariant-loop-at
invariant-loop-at g l = record {
  named : l.shown.items ≡ flat_map (λ seen. option_to_list (seen_name (g.C.Cells.state l.fn.cells).design seen)) (map seen_end (take l.at-index l.ends));
  read : HasRead (g.C.Cells.state l.fn.cells) (g.C.Cells.state l.cells) (AreFacesOf (map seen_end (take l.at-index l.ends)));
}
