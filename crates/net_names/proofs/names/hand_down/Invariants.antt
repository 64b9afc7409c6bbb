use Rattle.std.proofs.Common.{◌≡◌, ℕ, length, take}
use Rattle.net_names.specs.Names.{AreHanded, AreOwnNames, first_of, name_in}
use Rattle.net_names.proofs.names.hand_down.Given as goal

abbrev pub invariant-loop-joint : goal.invariant-loop-joint
invariant-loop-joint l = record {
  long : length l.names.items ≡ length l.fn.names.items;
  handed : (depth count : ℕ) → AreOwnNames depth count l.fn.names.items
      → AreHanded (first_of l.classes l.cell) (name_in l.outside l.firsts) depth (take l.joint-index l.joints) count l.names.items;
}
