use Rattle.std.proofs.Common.{sym, ap, ◌∙◌, not}
use Rattle.std.specs.Option.{option_copied}
use Rattle.edit_cells.proofs.Places.{free_found, free_missing}
use Rattle.edit_cells.proofs.seek.is_free.Goals as goal

pub returns-in-Some : goal.returns-in-Some
returns-in-Some c = ap not c.has_same.ensures ∙ free_found c.args.design.now c.args.lib c.in-Some.found.now c.args.name.now (sym c.lib_at.ensures.value ∙ ap option_copied c.in-Some.is)

pub returns-in-None : goal.returns-in-None
returns-in-None c = free_missing c.args.design.now c.args.lib c.args.name.now (sym c.lib_at.ensures.value ∙ ap option_copied c.in-None.is)
