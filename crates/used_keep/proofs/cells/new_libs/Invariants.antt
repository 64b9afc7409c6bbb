use Rattle.std.proofs.Common.{◌≡◌, take}
use Rattle.used_keep.specs.Places.{libs_by}
use Rattle.used_keep.proofs.cells.new_libs.Given as goal

abbrev pub invariant-loop-lib : goal.invariant-loop-lib
invariant-loop-lib g l = l.made.items ≡ take l.lib (libs_by (g.S.Shown.design l.design) l.places)
