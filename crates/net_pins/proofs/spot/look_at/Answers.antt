use Rattle.std.proofs.Common.{◌∙◌, ap, subst, sym}
use Rattle.net_pins.specs.Moves.{IsBelowAt}
use Rattle.net_pins.specs.Spots.{MayStand, left, stand_of}
use Rattle.net_pins.proofs.FoundLemmas.{below_there, is_block, leaf_found}
use Rattle.net_pins.proofs.spot.look_at.Goals as goal

pub returns-in_default-clause-found : goal.returns-in_default-clause-found
returns-in_default-clause-found g c =
    let q = c.args.asked.now in
    absurd (below_there q c.requires.asks (stand_of c.args.spot.now) c.requires.stands c.requires.looks c.args.cell c.args.joint c.requires.lead
    (subst (IsBelowAt q.design c.args.cell c.args.joint.inst) c.in_default.is c.below_at.ensures))

pub returns-then-below-clause-stands : goal.returns-then-below-clause-stands
returns-then-below-clause-stands g c =
    let q = c.args.asked.now in
    subst (MayStand q) (sym c.stand_at.ensures)
    (leaf_found q c.requires.asks (stand_of c.args.spot.now) c.requires.stands c.requires.looks c.args.cell c.args.joint c.requires.lead c.in-Some.below
    (subst (IsBelowAt q.design c.args.cell c.args.joint.inst) c.in-Some.is c.below_at.ensures) c.if-below.true).0

pub returns-then-below-clause-left : goal.returns-then-below-clause-left
returns-then-below-clause-left g c =
    let q = c.args.asked.now in
    ap (left q) c.stand_at.ensures
    ∙ (leaf_found q c.requires.asks (stand_of c.args.spot.now) c.requires.stands c.requires.looks c.args.cell c.args.joint c.requires.lead c.in-Some.below
    (subst (IsBelowAt q.design c.args.cell c.args.joint.inst) c.in-Some.is c.below_at.ensures) c.if-below.true).1

pub go_in-requires-clause-block : goal.go_in-requires-clause-block
go_in-requires-clause-block g c =
    let q = c.args.asked.now in
    is_block q c.requires.asks (stand_of c.args.spot.now) c.requires.stands c.requires.looks c.args.cell c.args.joint c.requires.lead c.in-Some.below
    (subst (IsBelowAt q.design c.args.cell c.args.joint.inst) c.in-Some.is c.below_at.ensures) c.if-below.false
