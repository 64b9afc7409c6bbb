use Rattle.std.proofs.Common.{◌≡◌, true, sym, ap, ◌∙◌}
use Rattle.flat_spec.specs.ConnectionTest.{same_net}
use Rattle.flat_spec.proofs.TestLemmas.{same_net-true}
use Rattle.flat_items.specs.Lent.{net_of}
use Rattle.erc_check.specs.declared.firsts.FirstNet.{FirstNet}
use Rattle.erc_check.proofs.OrderLemmas.{get_or-any}
use Rattle.erc_check.proofs.firsts.near_place.Goals as goal

pub returns-then-is_net : goal.returns-then-is_net
returns-then-is_net c =
    let within = c.if-place-firsts.true in
    let r = c.index-firsts-place.result in
    let told : same_net r.at (net_of c.args.at) ≡ true = sym c.is_net.ensures ∙ c.if-is_net.true in (
      within,
      λ d. ap (λ (f : FirstNet). f.at) (get_or-any c.args.firsts.now c.in-Some.place d r within ∙ sym c.index-firsts-place.is) ∙ same_net-true r.at (net_of c.args.at) told,
    )
