use Rattle.std.proofs.Common.{sym, subst, ◌∙◌}
use Rattle.netlist_schema.specs.Valid.{IsValid}
use Rattle.cell_puts.proofs.InPlace.{notes_put}
use Rattle.cell_puts.proofs.in_place.put_notes.Goals as goal

pub of-requires : goal.of-requires
of-requires c =
    subst IsValid
    (sym (notes_put c.args.design.now c.args.notes c.into_parts-title.result.0 c.into_parts-title.result.1 c.into_parts-title.result.2 c.into_parts-title.result.3 c.given_or.result
    (sym c.replace.ensures.value ∙ c.into_parts-title.ensures.parts) c.given_or.ensures))
    c.requires

pub returns-clause-ok : goal.returns-clause-ok
returns-clause-ok c =
    c.of.ensures
    ∙ notes_put c.args.design.now c.args.notes c.into_parts-title.result.0 c.into_parts-title.result.1 c.into_parts-title.result.2 c.into_parts-title.result.3 c.given_or.result
    (sym c.replace.ensures.value ∙ c.into_parts-title.ensures.parts) c.given_or.ensures
