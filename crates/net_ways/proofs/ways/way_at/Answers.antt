use Rattle.std.proofs.Common.{◌≡◌, Some, None, sym, ap, subst, ◌∙◌, slice_get}
use Rattle.std.specs.List.{Contains}
use Rattle.std.specs.Option.{option_copied}
use Rattle.std.proofs.lemmas.Option.{none-some, same_Some}
use Rattle.flat_spec.proofs.ListLemmas.{slice_get-contains}
use Rattle.net_ways.specs.Ways.{IsFrom}
use Rattle.net_ways.specs.declared.ways.Way.{Way}
use Rattle.net_ways.proofs.CountLemmas.{no_way}
use Rattle.net_ways.proofs.ways.way_at.Goals as goal

pub returns-in_default : goal.returns-in_default
returns-in_default c =
    let none : slice_get c.args.ways.now c.count_before-count.result ≡ None = sym c.way_in.ensures ∙ ap option_copied c.in_default.is in
    no_way c.args.ways.now c.args.inst c.args.first c.count_before-count.result c.requires c.count_before-count.ensures (λ v at h. none-some v (sym none ∙ at))

pub returns-then-is_from : goal.returns-then-is_from
returns-then-is_from c =
    let w : Way = c.in-Some.way.now in
    let at : slice_get c.args.ways.now c.count_before-count.result ≡ Some w = sym c.way_in.ensures ∙ ap option_copied c.in-Some.is in
    let yes_is = c.is_from.ensures.yes c.if-is_from.true in
    subst (λ (v : Way). Contains c.args.ways.now v) (λ i. record { inst = yes_is.inst_is i; first = yes_is.first_is i; net = w.net })
    (slice_get-contains c.args.ways.now c.count_before-count.result w at)

pub returns-else-is_from : goal.returns-else-is_from
returns-else-is_from c =
    let w : Way = c.in-Some.way.now in
    let at : slice_get c.args.ways.now c.count_before-count.result ≡ Some w = sym c.way_in.ensures ∙ ap option_copied c.in-Some.is in
    no_way c.args.ways.now c.args.inst c.args.first c.count_before-count.result c.requires c.count_before-count.ensures
    (λ v found h. c.is_from.ensures.no c.if-is_from.false (subst (λ (u : Way). IsFrom c.args.inst c.args.first u) (same_Some v w (sym found ∙ at)) h))
