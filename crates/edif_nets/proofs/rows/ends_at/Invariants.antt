use Rattle.std.proofs.Common.{◌≡◌, map, take}
use Rattle.edif_spec.specs.Nets.{end_of}
use Rattle.edif_nets.proofs.rows.ends_at.Given as goal

-- the ends so far
abbrev pub invariant-loop-stretch : goal.invariant-loop-stretch
invariant-loop-stretch l = l.ends.items ≡ map (end_of l.k) (take l.stretch-index l.stretches)
