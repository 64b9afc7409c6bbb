use Rattle.std.proofs.Common.{arith}
use Rattle.net_pins.specs.Spots.{stand_of}
use Rattle.net_pins.proofs.BackLemmas.{back_ready, back_stands, can_leave, left_stays, over}
use Rattle.net_pins.proofs.spot.look_above.Goals as goal

pub returns-then-len-lt2-clause-found : goal.returns-then-len-lt2-clause-found
returns-then-len-lt2-clause-found g c =
    (c.requires.looks, over c.args.asked.now c.requires.asks (stand_of c.args.spot.now) c.requires.stands c.requires.nothing (omega (arith, c.if-len-lt2.true, c.len.ensures)))

pub leave-requires : goal.leave-requires
leave-requires g c = can_leave c.args.asked.now c.requires.asks (stand_of c.args.spot.now) c.requires.stands c.requires.nothing (omega (arith, c.if-len-lt2.false, c.len.ensures))

pub returns-clause-stands : goal.returns-clause-stands
returns-clause-stands g c =
    back_stands c.args.asked.now c.requires.asks (stand_of c.args.spot.now) c.requires.stands c.requires.nothing (omega (arith, c.if-len-lt2.false, c.len.ensures)) (stand_of c.leave.new.self) c.requires.looks c.leave.ensures

pub returns-clause-left : goal.returns-clause-left
returns-clause-left g c =
    left_stays c.args.asked.now c.requires.asks (stand_of c.args.spot.now) c.requires.stands c.requires.nothing (omega (arith, c.if-len-lt2.false, c.len.ensures)) (stand_of c.leave.new.self) c.requires.looks c.leave.ensures

pub returns-clause-found : goal.returns-clause-found
returns-clause-found g c =
    back_ready c.args.asked.now c.requires.asks (stand_of c.args.spot.now) c.requires.stands c.requires.nothing (omega (arith, c.if-len-lt2.false, c.len.ensures)) (stand_of c.leave.new.self) c.requires.looks c.leave.ensures
