use Rattle.std.proofs.Common.{◌≡◌, ◌++◌, drop}
use Rattle.edif_spec.specs.Design as design
use Rattle.edif_parts.specs.Names.{ids}
use Rattle.edif_contents.proofs.known.names_of_insts.Given as goal

abbrev pub invariant-loop-place : goal.invariant-loop-place
invariant-loop-place l = ids l.names ++ design.inst_ids (drop l.place l.insts) ≡ design.inst_ids l.insts
