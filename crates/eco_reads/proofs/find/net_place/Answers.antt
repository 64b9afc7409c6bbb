use Rattle.std.proofs.Common.{sym, ◌∙◌}
use Rattle.netlist_schema.specs.Types.{Net}
use Rattle.edit_cells.proofs.Places.{place_is_position}
use Rattle.eco_reads.proofs.Within.{place_within}
use Rattle.eco_reads.proofs.find.net_place.Goals as goal

pub returns : goal.returns
returns c =
    let is = c.net_position.ensures ∙ sym (place_is_position (λ (net : Net). net.name.id) c.args.name.now c.args.nets.now) in
    record { value = is; within = place_within (λ (net : Net). net.name.id) c.args.name.now c.args.nets.now _ is }
