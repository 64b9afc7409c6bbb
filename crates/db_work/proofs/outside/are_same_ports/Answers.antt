use Rattle.std.proofs.Common.{arith, rules}
use Rattle.db_work.proofs.Outsides.{items_all, items_next}
use Rattle.db_work.proofs.outside.are_same_ports.Goals as goal

pub loop-place-preserved : goal.loop-place-preserved
loop-place-preserved c =
    items_next c.args.a.now c.args.b.now c.loop-place.place c.index-a-place.result c.index-b-place.result c.loop-place.invariant (omega arith) (omega arith) c.index-a-place.is c.index-b-place.is (c.is_same_port.ensures (search rules))

pub returns : goal.returns
returns c = λ told. items_all c.args.a.now c.args.b.now c.loop-place.place (omega arith) (omega arith) c.loop-place.invariant
