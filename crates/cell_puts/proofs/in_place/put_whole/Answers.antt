use Rattle.std.proofs.Common.{sym, ap, subst, ◌∙◌}
use Rattle.netlist_schema.specs.Valid.{IsValid}
use Rattle.edit_rules_spec.specs.Edit.{changed_at}
use Rattle.edit_cells.specs.Patch.{lib_after, place_of}
use Rattle.cell_puts.proofs.InPlace.{stays_put, whole_put}
use Rattle.cell_puts.proofs.in_place.put_whole.Goals as goal

pub put_parts-requires : goal.put_parts-requires
put_parts-requires c =
    let change = c.args.change in
    subst IsValid
    (sym (whole_put c.args.design.now change c.args.notes c.into_parts-title.result.0 c.into_parts-title.result.1 c.change_libs.new.libs.items c.into_parts-title.result.2 c.into_parts-title.result.3 c.given_or.result
    (sym c.replace.ensures.value ∙ c.into_parts-title.ensures.parts)
    (c.in-Ok.ensures.ok ∙ ap (changed_at (lib_after change) (place_of change)) c.into_vec-libs.ensures)
    c.given_or.ensures))
    c.requires.valid

pub put_parts-requires-in-Err : goal.put_parts-requires-in-Err
put_parts-requires-in-Err c =
    let parts = sym c.replace.ensures.value ∙ c.into_parts-title.ensures.parts in
    subst IsValid
    (sym (stays_put c.args.design.now c.into_parts-title.result.0 c.into_parts-title.result.1 c.change_libs.new.libs.items c.into_parts-title.result.2 c.into_parts-title.result.3 parts
    (c.in-Err.ensures.err ∙ c.into_vec-libs.ensures)))
    (subst IsValid c.replace.ensures.value c.into_parts-title.ensures.valid)

pub returns-in-Ok-clause-ok : goal.returns-in-Ok-clause-ok
returns-in-Ok-clause-ok c =
    let change = c.args.change in
    c.put_parts.ensures
    ∙ whole_put c.args.design.now change c.args.notes c.into_parts-title.result.0 c.into_parts-title.result.1 c.change_libs.new.libs.items c.into_parts-title.result.2 c.into_parts-title.result.3 c.given_or.result
    (sym c.replace.ensures.value ∙ c.into_parts-title.ensures.parts)
    (c.in-Ok.ensures.ok ∙ ap (changed_at (lib_after change) (place_of change)) c.into_vec-libs.ensures)
    c.given_or.ensures

pub returns-in-Err-clause-err : goal.returns-in-Err-clause-err
returns-in-Err-clause-err c =
    c.put_parts-in-Err.ensures
    ∙ stays_put c.args.design.now c.into_parts-title.result.0 c.into_parts-title.result.1 c.change_libs.new.libs.items c.into_parts-title.result.2 c.into_parts-title.result.3
    (sym c.replace.ensures.value ∙ c.into_parts-title.ensures.parts) (c.in-Err.ensures.err ∙ c.into_vec-libs.ensures)
