use Rattle.std.proofs.Common.{◌∙◌, subst}
use Rattle.net_pins.specs.Spots.{IsFound, stand_of}
use Rattle.net_pins.proofs.spot.advance.Goals as goal

pub returns-in-ThePin-clause-left : goal.returns-in-ThePin-clause-left
returns-in-ThePin-clause-left g c = c.look.ensures.left ∙ c.loop.invariant.same

pub returns-in-ThePin-clause-ready : goal.returns-in-ThePin-clause-ready
returns-in-ThePin-clause-ready g c = subst (IsFound c.args.asked.now (stand_of c.look.new.spot)) c.in-ThePin.is c.in_ok-look.ensures.found

pub loop-preserved : goal.loop-preserved
loop-preserved g c = record {
  stands = c.look.ensures.stands;
  same = c.look.ensures.left ∙ c.loop.invariant.same;
  looks = subst (IsFound c.args.asked.now (stand_of c.look.new.spot)) c.in-Occurrence.is c.in_ok-look.ensures.found;
}

pub returns-in-Nothing-clause-left : goal.returns-in-Nothing-clause-left
returns-in-Nothing-clause-left g c = c.look.ensures.left ∙ c.loop.invariant.same

pub returns-in-Nothing-clause-ready : goal.returns-in-Nothing-clause-ready
returns-in-Nothing-clause-ready g c = (subst (IsFound c.args.asked.now (stand_of c.look.new.spot)) c.in-Nothing.is c.in_ok-look.ensures.found).0

pub returns-in-Nothing-clause-none : goal.returns-in-Nothing-clause-none
returns-in-Nothing-clause-none g c = λ is. (subst (IsFound c.args.asked.now (stand_of c.look.new.spot)) c.in-Nothing.is c.in_ok-look.ensures.found).1
