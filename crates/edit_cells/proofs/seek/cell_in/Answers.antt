use Rattle.std.proofs.Common.{sym, ap, ◌∙◌}
use Rattle.std.specs.Option.{option_copied}
use Rattle.edit_cells.proofs.Places.{cell_place}
use Rattle.edit_cells.proofs.seek.cell_in.Goals as goal

pub returns-in-Some-cell_position : goal.returns-in-Some-cell_position
returns-in-Some-cell_position c = sym (cell_place c.args.design.now c.args.lib c.in-Some.found.now c.args.name.now _ (sym c.lib_at.ensures.value ∙ ap option_copied c.in-Some.is) c.in-Some-cell_position.ensures)

pub returns-in-None : goal.returns-in-None
returns-in-None c = sym (cell_place c.args.design.now c.args.lib c.in-Some.found.now c.args.name.now _ (sym c.lib_at.ensures.value ∙ ap option_copied c.in-Some.is) c.in-None.ensures)
