use Rattle.std.proofs.Common.{◌≡◌, length}
use Rattle.net_classes.specs.Own.{AreSet}
use Rattle.net_classes.proofs.joints.set_own.Given as goal

abbrev pub invariant-loop-end : goal.invariant-loop-end
invariant-loop-end l = record {
  long : length l.own ≡ length l.initial.own;
  set : AreSet l.starts l.ends l.end-index l.place l.initial.own l.own;
}
