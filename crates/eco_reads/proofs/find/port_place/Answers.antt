use Rattle.std.proofs.Common.{sym, ◌∙◌}
use Rattle.netlist_schema.specs.Types.{Port}
use Rattle.edit_cells.proofs.Places.{place_is_position}
use Rattle.eco_reads.proofs.Within.{place_within}
use Rattle.eco_reads.proofs.find.port_place.Goals as goal

pub returns : goal.returns
returns c =
    let is = c.port_position.ensures ∙ sym (place_is_position (λ (port : Port). port.name.id) c.args.name.now c.args.ports.now) in
    record { value = is; within = place_within (λ (port : Port). port.name.id) c.args.name.now c.args.ports.now _ is }
