use Rattle.std.proofs.Common.{◌≡◌, drop}
use Rattle.netlist_schema.specs.Marks.{last_inst}
use Rattle.netlist_schema.proofs.marks.last_inst.Given as goal

-- the ends that are left make the rest
abbrev pub invariant-loop-end : goal.invariant-loop-end
invariant-loop-end l = last_inst l.last (drop l.end-index l.ends) ≡ last_inst 0 l.ends
