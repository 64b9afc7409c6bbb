use Rattle.std.proofs.Common.{◌∙◌, refl, sym, arith}
use Rattle.flat_items.specs.Stand.{stand_of}
use Rattle.par_parts.proofs.PassLemmas.{own_passed}
use Rattle.par_parts.proofs.passing.pass_own.Goals as goal

pub own-init : goal.own-init
own-init g c = record {
  stands = c.skip.ensures.stands;
  less = omega arith;
  same = own_passed c.args.ground.now c.args.count c.args.count (stand_of c.args.place.now) (stand_of c.args.place.now) (stand_of c.skip.new.place)
      c.requires.some c.requires.one c.skip.ensures.passed refl;
}

pub own-preserved : goal.own-preserved
own-preserved g c = record {
  stands = c.pass_nets-more.ensures.stands;
  less = let fewer = c.pass_nets-more.ensures.less in let some = c.own-test.true in let before = c.own.invariant.less in omega (arith, fewer, some, before);
  same = c.pass_nets-more.ensures.left
      ∙ own_passed c.args.ground.now c.args.count c.own.more (stand_of c.args.place.now) (stand_of c.own.place) (stand_of c.skip-in-own.new.place)
      c.own-test.true (sym c.is_over.ensures ∙ c.if-is_over.false) c.skip-in-own.ensures.passed c.own.invariant.same;
}
