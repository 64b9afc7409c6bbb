use Rattle.std.proofs.Common.{◌∙◌, ap, subst, sym}
use Rattle.net_pins.specs.Moves.{IsOwnLevel}
use Rattle.net_pins.specs.Spots.{MayStand, Stand, left, stand_of}
use Rattle.net_pins.proofs.FoundLemmas.{on_err_too, own_entered, own_nowhere}
use Rattle.net_pins.proofs.spot.enter_own.Goals as goal

pub returns-in_default-clause-found : goal.returns-in_default-clause-found
returns-in_default-clause-found g c = (
  c.requires.looks,
  own_nowhere c.args.asked.now c.requires.asks (stand_of c.args.spot.now) c.requires.stands c.requires.looks c.requires.own c.requires.none
      (subst (IsOwnLevel c.args.asked.now) c.in_default.is c.in_ok-level.ensures),
)

pub returns-in_err-enter-clause-stands : goal.returns-in_err-enter-clause-stands
returns-in_err-enter-clause-stands g c = subst (MayStand c.args.asked.now) (sym c.in_err-enter.ensures.err) c.requires.stands

pub returns-in_err-enter-clause-left : goal.returns-in_err-enter-clause-left
returns-in_err-enter-clause-left g c = ap (left c.args.asked.now) c.in_err-enter.ensures.err

pub returns-in_err-enter-clause-err : goal.returns-in_err-enter-clause-err
returns-in_err-enter-clause-err g c =
    on_err_too c.from_residual-in_err-enter.result (ap (λ (v : Stand). v.ready) c.in_err-enter.ensures.err ∙ c.requires.looks)

pub returns-clause-stands : goal.returns-clause-stands
returns-clause-stands g c =
    subst (MayStand c.args.asked.now) (sym c.in_ok-enter.ensures.ok)
    (own_entered c.args.asked.now c.requires.asks (stand_of c.args.spot.now) c.requires.stands c.requires.looks c.requires.own c.requires.none c.in-Some.level
    (subst (IsOwnLevel c.args.asked.now) c.in-Some.is c.in_ok-level.ensures)).0

pub returns-clause-left : goal.returns-clause-left
returns-clause-left g c =
    ap (left c.args.asked.now) c.in_ok-enter.ensures.ok
    ∙ (own_entered c.args.asked.now c.requires.asks (stand_of c.args.spot.now) c.requires.stands c.requires.looks c.requires.own c.requires.none c.in-Some.level
    (subst (IsOwnLevel c.args.asked.now) c.in-Some.is c.in_ok-level.ensures)).1

pub returns-clause-found : goal.returns-clause-found
returns-clause-found g c = ap (λ (v : Stand). v.ready) c.in_ok-enter.ensures.ok ∙ c.requires.looks
