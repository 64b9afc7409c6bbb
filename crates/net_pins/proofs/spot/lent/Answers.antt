use Rattle.std.proofs.Common.{◌≡◌, ◌∷◌, ◌∙◌, Some, ap, drop, sym}
use Rattle.flat_spec.specs.declared.item.Item.TheVariants.{Pin}
use Rattle.flat_items.specs.Lent.{net_of}
use Rattle.net_pins.specs.Spots.{Question, left, stand_of}
use Rattle.net_pins.proofs.FoundLemmas.{lent_is}
use Rattle.net_pins.proofs.spot.lent.Goals as goal

pub returns : goal.returns
returns g c =
    let q = c.args.asked.now in
    let s = stand_of c.args.spot.now in
    let named : q.first ≡ net_of c.asked.inside.first = sym (ap (λ (v : Question). v.first) c.asked.view_is) in
    lent_is q c.requires.asks s c.requires.stands c.requires.ready
    ∙ (λ k. Pin ((sym c.as_slice.ensures.value) k) s.port s.bit (Some (named k)) ∷ drop 1 (left q s))
