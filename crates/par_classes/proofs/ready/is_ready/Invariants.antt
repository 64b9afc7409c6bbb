use Rattle.std.proofs.Common.{◌≡◌, take, true}
use Rattle.std.specs.List.{All}
use Rattle.netlist_schema.specs.Types.{Inst}
use Rattle.flat_cells.specs.Marks.{is_marked}
use Rattle.par_classes.proofs.ready.is_ready.Given as goal

abbrev pub invariant-loop-place : goal.invariant-loop-place
invariant-loop-place g l = All (λ (inst : Inst). is_marked l.marks inst.of ≡ true) (take l.place l.insts)
