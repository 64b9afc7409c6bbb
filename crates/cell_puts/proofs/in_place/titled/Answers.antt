use Rattle.std.proofs.Common.{sym, subst, ◌∙◌}
use Rattle.netlist_schema.specs.Typed.{IsTypedName}
use Rattle.cell_puts.proofs.InPlace.{blank_valid}
use Rattle.cell_puts.proofs.in_place.titled.Goals as goal

pub of-requires-3 : goal.of-requires-3
of-requires-3 c = blank_valid c.in_ok-title.title c.of.result c.of-2.result (c.of.ensures ∙ c.new.ensures.items) (c.of-2.ensures ∙ c.new-2.ensures.items)
    (subst IsTypedName (sym (c.in_ok-title.ensures.same ∙ c.title.ensures)) c.design_is_valid.ensures.typed.title)
