use Rattle.std.proofs.Common.{sym, subst, ◌∙◌}
use Rattle.netlist_schema.specs.Valid.{IsValid}
use Rattle.design_copy.proofs.Copying.{parts_are}
use Rattle.design_copy.proofs.copies.copy_of.Goals as goal

pub of-requires : goal.of-requires
of-requires g c =
    let d = g.S.Shown.design c.args.design.now in
    subst IsValid (sym (parts_are d c.in_ok-title.title c.in_ok-libs.libs c.in_ok-top.top c.in_ok-notes.notes
    (c.in_ok-title.ensures.same ∙ c.title.ensures) c.in_ok-libs.ensures (c.in_ok-top.ensures ∙ c.top.ensures.value) (c.in_ok-notes.ensures.same ∙ c.notes.ensures))) c.design_is_valid.ensures

pub returns : goal.returns
returns g c =
    let d = g.S.Shown.design c.args.design.now in
    c.of.ensures
    ∙ parts_are d c.in_ok-title.title c.in_ok-libs.libs c.in_ok-top.top c.in_ok-notes.notes
    (c.in_ok-title.ensures.same ∙ c.title.ensures) c.in_ok-libs.ensures (c.in_ok-top.ensures ∙ c.top.ensures.value) (c.in_ok-notes.ensures.same ∙ c.notes.ensures)
