use Rattle.std.proofs.Common.{sym, subst, ◌∙◌}
use Rattle.netlist_schema.specs.Valid.{IsValid}
use Rattle.used_spec.proofs.KeptValid.{kept_below_valid}
use Rattle.used_keep.proofs.Placing.{parts_are}
use Rattle.used_keep.proofs.keep.with_places.Goals as goal

pub of-requires : goal.of-requires
of-requires g c =
    let d = g.S.Shown.design c.args.design.now in
    subst IsValid (sym (parts_are d c.args.top.now c.args.places.now c.in_ok-title.title c.in_ok-libs.libs c.in_ok-head.head c.in_ok-notes.notes
    (c.in_ok-title.ensures.same ∙ c.title.ensures) c.in_ok-libs.ensures c.in_ok-head.ensures (c.in_ok-notes.ensures.same ∙ c.notes.ensures) c.requires.places))
    (kept_below_valid d c.args.top.now c.design_is_valid.ensures c.requires.top)

pub returns : goal.returns
returns g c =
    let d = g.S.Shown.design c.args.design.now in
    c.of.ensures
    ∙ parts_are d c.args.top.now c.args.places.now c.in_ok-title.title c.in_ok-libs.libs c.in_ok-head.head c.in_ok-notes.notes
    (c.in_ok-title.ensures.same ∙ c.title.ensures) c.in_ok-libs.ensures c.in_ok-head.ensures (c.in_ok-notes.ensures.same ∙ c.notes.ensures) c.requires.places
