use Rattle.std.proofs.Common.{◌∙◌, ap, subst, sym}
use Rattle.net_pins.specs.Moves.{IsOwnBit}
use Rattle.net_pins.specs.Spots.{MayStand, Stand, left, stand_of}
use Rattle.net_pins.proofs.FoundLemmas.{own_found}
use Rattle.net_pins.proofs.spot.look_at_own.Goals as goal

pub returns-in-Some-clause-stands : goal.returns-in-Some-clause-stands
returns-in-Some-clause-stands g c =
    let q = c.args.asked.now in
    let s = stand_of c.args.spot.now in
    subst (MayStand q) (sym c.stand_at_own.ensures)
    (own_found q c.requires.asks s c.requires.stands c.requires.looks c.requires.own c.in-Some.own (subst (IsOwnBit q s) c.in-Some.is c.own_bit.ensures)).0

pub returns-in-Some-clause-left : goal.returns-in-Some-clause-left
returns-in-Some-clause-left g c =
    let q = c.args.asked.now in
    let s = stand_of c.args.spot.now in
    ap (left q) c.stand_at_own.ensures
    ∙ (own_found q c.requires.asks s c.requires.stands c.requires.looks c.requires.own c.in-Some.own (subst (IsOwnBit q s) c.in-Some.is c.own_bit.ensures)).1

pub returns-in-Some-clause-found : goal.returns-in-Some-clause-found
returns-in-Some-clause-found g c = ap (λ (v : Stand). v.ready) c.stand_at_own.ensures

pub enter_own-requires-clause-none : goal.enter_own-requires-clause-none
enter_own-requires-clause-none g c = subst (IsOwnBit c.args.asked.now (stand_of c.args.spot.now)) c.in-None.is c.own_bit.ensures
