use Rattle.std.proofs.Common.{◌≡◌, map, drop}
use Rattle.edit_spec.specs.AddCell.{has_twice}
use Rattle.eco_plans.proofs.cell_plans.has_twice.Given as goal

-- what stands twice, stands so among the ports that are left
abbrev pub invariant-loop-i : goal.invariant-loop-i
invariant-loop-i l = has_twice (map (λ port. port.name) l.ports) ≡ has_twice (map (λ port. port.name) (drop l.i l.ports))
