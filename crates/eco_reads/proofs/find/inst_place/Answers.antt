use Rattle.std.proofs.Common.{sym, ◌∙◌}
use Rattle.netlist_schema.specs.Types.{Inst}
use Rattle.edit_cells.proofs.Places.{place_is_position}
use Rattle.eco_reads.proofs.Within.{place_within}
use Rattle.eco_reads.proofs.find.inst_place.Goals as goal

pub returns : goal.returns
returns c =
    let is = c.inst_position.ensures ∙ sym (place_is_position (λ (inst : Inst). inst.name.id) c.args.name.now c.args.insts.now) in
    record { value = is; within = place_within (λ (inst : Inst). inst.name.id) c.args.name.now c.args.insts.now _ is }
