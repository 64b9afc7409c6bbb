use Rattle.std.proofs.Common.{sym, ◌∙◌}
use Rattle.netlist_schema.specs.Types.{Property}
use Rattle.edit_cells.proofs.Places.{place_is_position}
use Rattle.eco_reads.proofs.Within.{place_within}
use Rattle.eco_reads.proofs.find.property_place.Goals as goal

pub returns : goal.returns
returns c =
    let is = c.property_position.ensures ∙ sym (place_is_position (λ (property : Property). property.key.id) c.args.key.now c.args.properties.now) in
    record { value = is; within = place_within (λ (property : Property). property.key.id) c.args.key.now c.args.properties.now _ is }
