use Rattle.std.proofs.Common.{◌≡◌, map, take}
use Rattle.edit_spec.specs.AddCell.{new_port}
use Rattle.eco_plans.proofs.cell_plans.new_ports.Given as goal

-- the ports so far
abbrev pub invariant-loop-decl : goal.invariant-loop-decl
invariant-loop-decl l = l.ports.items ≡ map new_port (take l.decl-index l.decls)
