use Rattle.std.proofs.Common.{◌≡◌, ◌∙◌, List, arith, get_or, length, subst, sym}
use Rattle.std.specs.List.{All, Contains}
use Rattle.std.proofs.lemmas.List.Elements.{All-contains}
use Rattle.netlist_schema.specs.Hierarchy.{IsCell}
use Rattle.netlist_schema.specs.Types.{CellId}
use Rattle.par_classes.proofs.workers.tell_pass.Goals as goal

pub tell_each-requires-clause-there : goal.tell_each-requires-clause-there
tell_each-requires-clause-there g c = λ κs within.
    let d = g.S.Shown.design c.args.design.now in
    subst (λ (v : List CellId). All (IsCell d) v) (sym c.as_slice.ensures.value)
    (λ k default within.
    All-contains (IsCell d) c.args.below.now (get_or c.in_ok-pending.pending.items k default) c.requires.there (c.in_ok-pending.ensures k default within))

pub returns : goal.returns
returns g c =
    let d = g.S.Shown.design c.args.design.now in
    let below = c.args.below.now in
    let parts = c.in_ok-parts.parts in
    let long : length parts.items ≡ c.args.workers = sym parts.ok.0 ∙ c.in_ok-parts.ensures.len in
    let among = subst (λ v. All (Contains below) v) (sym c.as_slice.ensures.value) c.in_ok-pending.ensures in
    c.in_ok-told.ensures d below c.requires.telling
    (λ k default within. c.in_ok-parts.ensures.each k default below (omega (arith, within, long)) c.requires.telling among)
