use Rattle.std.proofs.Common.{◌≡◌, map, take}
use Rattle.std.specs.Arc.{arc_value}
use Rattle.db_draft.specs.Laid.{libs_laid}
use Rattle.db_draft.specs.Layers.{over_of}
use Rattle.db_draft.proofs.draft.shelves_laid.Given as goal

-- the libraries so far
abbrev pub invariant-loop-place : goal.invariant-loop-place
invariant-loop-place l = map arc_value l.shelves.items ≡ take l.place (libs_laid (map over_of l.layers) l.base.libs)
