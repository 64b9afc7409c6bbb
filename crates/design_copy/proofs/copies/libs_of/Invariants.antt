use Rattle.std.proofs.Common.{◌≡◌, take}
use Rattle.design_copy.proofs.copies.libs_of.Given as goal

abbrev pub invariant-loop-lib : goal.invariant-loop-lib
invariant-loop-lib g l = l.made.items ≡ take l.lib (g.S.Shown.design l.design).libs
