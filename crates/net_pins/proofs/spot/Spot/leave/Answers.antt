use Rattle.std.proofs.Common.{arith}
use Rattle.net_pins.specs.Spots.{stand_of}
use Rattle.net_pins.proofs.FoundLemmas.{room_above}
use Rattle.net_pins.proofs.spot.Spot.leave.Goals as goal

pub drop_last-requires : goal.drop_last-requires
drop_last-requires c = let deep = c.requires.deep in omega (arith, deep)

pub drop_last-requires-2 : goal.drop_last-requires-2
drop_last-requires-2 c = let long = c.requires.long in omega (arith, long)

pub go_to_next-requires : goal.go_to_next-requires
go_to_next-requires c = room_above (stand_of c.args.self.now) c.requires c.drop_last-2.new.xs.items c.drop_last-2.ensures.last c.drop_last-2.ensures.is

pub returns : goal.returns
returns c = record {
  levels = c.drop_last.new.xs.items;
  level = c.drop_last.ensures.last;
  path = c.drop_last-2.new.xs.items;
  step = c.drop_last-2.ensures.last;
  levels_are = c.drop_last.ensures.is;
  path_is = c.drop_last-2.ensures.is;
  new_is = c.go_to_next.ensures;
}
