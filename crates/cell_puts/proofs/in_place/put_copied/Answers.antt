use Rattle.std.proofs.Common.{sym, subst, ◌∙◌}
use Rattle.netlist_schema.specs.Valid.{IsValid}
use Rattle.edit_cells.proofs.States.{made_is}
use Rattle.cell_puts.proofs.in_place.put_copied.Goals as goal

pub put-requires : goal.put-requires
put-requires c = subst IsValid (made_is c.args.design.now c.args.cells.now c.args.notes c.in_ok-libs.libs (c.in_ok-libs.ensures c.args.design.now (sym c.libs.ensures.value))) c.requires

pub returns-clause-ok : goal.returns-clause-ok
returns-clause-ok c = c.put.ensures ∙ sym (made_is c.args.design.now c.args.cells.now c.args.notes c.in_ok-libs.libs (c.in_ok-libs.ensures c.args.design.now (sym c.libs.ensures.value)))
