use Rattle.std.proofs.Common.{◌∷◌, ◌∙◌, Ok, ap, subst, sym}
use Rattle.net_pins.specs.Spots.{MayStand, left, stand_of}
use Rattle.net_pins.proofs.FoundLemmas.{passed_may, passed_on}
use Rattle.net_pins.proofs.PassLemmas.{bit_has_room}
use Rattle.net_pins.proofs.spot.next_pin.Goals as goal

pub returns-then-not-more-clause-none : goal.returns-then-not-more-clause-none
returns-then-not-more-clause-none g c =
    let none = c.advance.ensures.none (c.in_ok-more.was ∙ ap Ok c.if-not-more.true) in (sym c.advance.ensures.left ∙ none, none)

pub skip-requires : goal.skip-requires
skip-requires g c = λ ready. bit_has_room c.args.asked.now c.requires.asks (stand_of c.advance.new.spot) c.advance.ensures.stands ready

pub returns-clause-stands : goal.returns-clause-stands
returns-clause-stands g c =
    subst (MayStand c.args.asked.now) (sym c.skip.ensures) (passed_may c.args.asked.now c.requires.asks (stand_of c.advance.new.spot) c.advance.ensures.stands)

pub returns-clause-some : goal.returns-clause-some
returns-clause-some g c =
    let q = c.args.asked.now in
    let s = stand_of c.advance.new.spot in
    sym c.advance.ensures.left ∙ c.in_ok-item.ensures
    ∙ ap (λ v. c.in_ok-item.item ∷ v) (sym (ap (left q) c.skip.ensures ∙ (passed_on q c.requires.asks s c.advance.ensures.stands (c.in_ok-more.ensures.ready ∙ c.if-not-more.false)).1))
