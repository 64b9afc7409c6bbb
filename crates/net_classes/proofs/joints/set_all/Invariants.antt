use Rattle.std.proofs.Common.{◌≡◌, length}
use Rattle.net_classes.specs.Own.{AreOwn}
use Rattle.net_classes.proofs.joints.set_all.Given as goal

abbrev pub invariant-loop-place : goal.invariant-loop-place
invariant-loop-place l = record {
  long : length l.own ≡ length l.initial.own;
  own : AreOwn l.starts l.nets l.place l.own;
}
