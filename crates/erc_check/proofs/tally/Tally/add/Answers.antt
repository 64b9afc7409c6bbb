use Rattle.std.proofs.Common.{ap, sym, ◌∙◌, refl, length}
use Rattle.std.specs.Option.{option_map}
use Rattle.std.proofs.lemmas.Result.{on_ok_weaker}
use Rattle.flat_spec.specs.declared.item.Item.TheVariants.{Pin}
use Rattle.flat_items.specs.Lent.{item_of, net_of}
use Rattle.erc_check.proofs.FirstLemmas.{put_back, same_length}
use Rattle.erc_check.proofs.TallyLemmas.{bare_pin, entered, joined_pin, netted}
use Rattle.erc_check.proofs.tally.Tally.add.Goals as goal

pub returns-in-Enter : goal.returns-in-Enter
returns-in-Enter g c =
    entered (g.S.Shown.design c.args.design.now) c.args.self.now _ (item_of c.args.item) _ c.in-Enter.cell _ (ap item_of c.in-Enter.is) refl refl refl

pub returns-in-Net : goal.returns-in-Net
returns-in-Net g c =
    on_ok_weaker c.add_first.result
    (netted (g.S.Shown.design c.args.design.now) c.args.self.now _ (item_of c.args.item) c.in-Net.path.now c.in-Net.net (net_of c.in-Net.first) (ap item_of c.in-Net.is) refl refl)
    c.add_first.ensures

pub returns-in-Some : goal.returns-in-Some
returns-in-Some g c =
    joined_pin (g.S.Shown.design c.args.design.now) c.args.self.now _ (item_of c.args.item) c.in-Pin.path.now c.in-Pin.port c.in-Pin.bit (net_of c.in-Some.at) c.direction_in-direction.result
    (ap item_of c.in-Pin.is ∙ ap (λ o. Pin c.in-Pin.path.now c.in-Pin.port c.in-Pin.bit (option_map net_of o)) c.in-Some.is)
    c.direction_in-direction.ensures refl refl
    (λ nets drives in_order there is.
    let old = c.args.self.now.firsts in
    let new = c.add_drive.new.firsts in
    let new_is = c.add_drive.ensures nets drives in_order there (c.deref_mut.ensures.value ∙ is) in
    let same = same_length drives _ nets old.items new is new_is in
    put_back new old.items old.len same (sym (same ∙ (ap length (sym c.deref_mut.ensures.value) ∙ c.deref_mut.ensures.len))) ∙ new_is)

pub returns-in-None : goal.returns-in-None
returns-in-None g c =
    on_ok_weaker c.add_open.result
    (bare_pin (g.S.Shown.design c.args.design.now) c.args.self.now _ (item_of c.args.item) c.in-Pin.path.now c.in-Pin.port c.in-Pin.bit c.direction_in-direction.result
    (ap item_of c.in-Pin.is ∙ ap (λ o. Pin c.in-Pin.path.now c.in-Pin.port c.in-Pin.bit (option_map net_of o)) c.in-None.is)
    c.direction_in-direction.ensures refl refl)
    c.add_open.ensures
