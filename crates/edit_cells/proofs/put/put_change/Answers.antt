use Rattle.std.proofs.Common.{subst, ◌∙◌}
use Rattle.netlist_schema.specs.Valid.{IsValid}
use Rattle.edit_cells.proofs.Puts.{only_change, without_notes}
use Rattle.edit_cells.proofs.put.put_change.Goals as goal

pub put_one-requires-clause-valid : goal.put_one-requires-clause-valid
put_one-requires-clause-valid c = subst IsValid (only_change c.args.design.now c.args.change c.in-Ok.one c.into_vec.result.items c.into_vec.ensures c.in-Ok.ensures c.if-is_some.ensures) c.requires.valid

pub put_copied-requires-in-Err : goal.put_copied-requires-in-Err
put_copied-requires-in-Err c = subst IsValid (without_notes c.args.design.now c.args.change c.as_slice-in-Err.result.now (c.as_slice-in-Err.ensures.value ∙ c.in-Err.ensures ∙ c.into_vec.ensures) c.if-is_some.ensures) c.requires.valid
