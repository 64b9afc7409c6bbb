use Rattle.std.proofs.Common.{◌∙◌, ap, drop, subst, sym}
use Rattle.net_pins.specs.Spots.{MayStand, Rest, Stand, left, stand_of}
use Rattle.net_pins.proofs.FoundLemmas.{passed_may, passed_none, passed_on, passed_over}
use Rattle.net_pins.proofs.PassLemmas.{bit_has_room}
use Rattle.net_pins.proofs.pins.Pins.skip_one.Goals as goal

pub skip-requires : goal.skip-requires
skip-requires g c = λ ready. bit_has_room c.self.inside.asked c.self.invariant.asks (stand_of c.self.inside.spot) c.self.invariant.stands ready

pub invariant_of-self : goal.invariant_of-self
invariant_of-self g c = record {
  asks = c.self.invariant.asks;
  stands = subst (MayStand c.self.inside.asked) (sym c.skip.ensures) (passed_may c.self.inside.asked c.self.invariant.asks (stand_of c.self.inside.spot) c.self.invariant.stands);
}

pub returns-clause-passed : goal.returns-clause-passed
returns-clause-passed g c = λ ready.
    let q = c.self.inside.asked in
    let s = stand_of c.self.inside.spot in
    ap (left q) c.skip.ensures ∙ (passed_on q c.self.invariant.asks s c.self.invariant.stands (ap (λ (r : Rest). r.ready) c.self.view_is ∙ ready)).1 ∙ ap (λ (r : Rest). drop 1 r.left) c.self.view_is

pub returns-clause-stays : goal.returns-clause-stays
returns-clause-stays g c = λ ready.
    let q = c.self.inside.asked in
    let s = stand_of c.self.inside.spot in
    ap (left q) c.skip.ensures ∙ (passed_none q c.self.invariant.asks s c.self.invariant.stands (ap (λ (r : Rest). r.ready) c.self.view_is ∙ ready)).1 ∙ ap (λ (r : Rest). r.left) c.self.view_is

pub returns-clause-over : goal.returns-clause-over
returns-clause-over g c =
    let q = c.self.inside.asked in
    let s = stand_of c.self.inside.spot in
    ap (λ (v : Stand). v.ready) c.skip.ensures ∙ passed_over q c.self.invariant.asks s c.self.invariant.stands
