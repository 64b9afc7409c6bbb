use Rattle.test_share.proofs.Trios.{gone}
use Rattle.test_share.proofs.trio.in_turn.Goals as goal

pub go-first-requires-clause-ready : goal.go-first-requires-clause-ready
go-first-requires-clause-ready g c = c.requires.first.ready

pub go-first-requires-clause-tx : goal.go-first-requires-clause-tx
go-first-requires-clause-tx g c = c.requires.first.held

pub go-second-requires-clause-ready : goal.go-second-requires-clause-ready
go-second-requires-clause-ready g c = c.requires.second.ready

pub go-second-requires-clause-tx : goal.go-second-requires-clause-tx
go-second-requires-clause-tx g c = c.requires.second.held

pub returns : goal.returns
returns g c = record {
  seats = c.requires.seats;
  first = gone c.args.db.now 0 c.args.trio.first c.go-first.result c.requires.first c.go-first.ensures;
  second = gone c.args.db.now 1 c.args.trio.second c.go-second.result c.requires.second c.go-second.ensures;
  idle = c.requires.idle;
}
