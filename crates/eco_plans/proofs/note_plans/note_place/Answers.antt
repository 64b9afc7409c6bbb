use Rattle.std.proofs.Common.{◌&&◌, sym, ◌∙◌, nat_eq}
use Rattle.std.specs.Cmp.Lexicographic.{pointwise}
use Rattle.netlist_schema.specs.Types.{Note}
use Rattle.edit_rules_spec.specs.Find.{is_name}
use Rattle.edit_cells.proofs.Places.{first_is_position}
use Rattle.eco_reads.proofs.Within.{first_within}
use Rattle.eco_plans.proofs.note_plans.note_place.Goals as goal

pub returns : goal.returns
returns c =
    let is = c.note_position.ensures ∙ sym (first_is_position (λ (note : Note). pointwise (pointwise nat_eq) note.path c.args.path.now && is_name note.property.key.id c.args.key.now) c.args.notes.now) in
    record { value = is; within = first_within (λ (note : Note). pointwise (pointwise nat_eq) note.path c.args.path.now && is_name note.property.key.id c.args.key.now) c.args.notes.now _ is }
