use Rattle.std.proofs.Common.{◌≡◌, map, take}
use Rattle.netlist_schema.specs.Types.{Note}
use Rattle.eco_ops.proofs.insts.paths_of.Given as goal

abbrev pub invariant-loop-note : goal.invariant-loop-note
invariant-loop-note l = l.paths.items ≡ map (λ (note : Note). note.path) (take l.note-index l.note-items)
