use Rattle.std.proofs.Common.{◌≡◌, arith, eqb-true, length, sym, subst, vec_len, ◌∙◌}
use Rattle.netlist_schema.specs.Valid.{IsValid}
use Rattle.edit_cells.proofs.Puts.{only_change}
use Rattle.cell_puts.proofs.InPlace.{no_cells, with_cells}
use Rattle.cell_puts.proofs.in_place.put_in_place.Goals as goal

pub put_notes-requires : goal.put_notes-requires
put_notes-requires c =
    let empty = eqb-true (vec_len c.into_vec-cells.result) 0 (sym c.if-is_empty.ensures) in
    let none : length c.into_vec-cells.result.items ≡ 0 = omega (arith, empty) in
    subst IsValid (with_cells c.args.design.now c.args.change _ (sym (no_cells c.into_vec-cells.result.items none) ∙ c.into_vec-cells.ensures)) c.requires.valid

pub put_noted-requires : goal.put_noted-requires
put_noted-requires c = subst IsValid (with_cells c.args.design.now c.args.change _ (sym c.in-Ok.ensures ∙ c.into_vec-cells.ensures)) c.requires.valid

pub put_one-requires-clause-valid : goal.put_one-requires-clause-valid
put_one-requires-clause-valid c = subst IsValid (only_change c.args.design.now c.args.change c.in-Ok.one c.into_vec-cells.result.items c.into_vec-cells.ensures c.in-Ok.ensures c.if-is_some.ensures) c.requires.valid

pub put_copied-requires : goal.put_copied-requires
put_copied-requires c = subst IsValid (with_cells c.args.design.now c.args.change c.as_slice.result.now (c.as_slice.ensures.value ∙ c.in-Err.ensures ∙ c.into_vec-cells.ensures)) c.requires.valid
