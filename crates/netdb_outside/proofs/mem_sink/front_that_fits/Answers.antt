use Rattle.std.proofs.Common.{drop, sym}
use Rattle.std.proofs.lemmas.List.{take-append-drop}
use Rattle.netdb_outside.proofs.mem_sink.front_that_fits.Goals as goal

pub returns-then-room-piece-clause-front : goal.returns-then-room-piece-clause-front
returns-then-room-piece-clause-front c =
    let room = c.saturating_sub-room.result in
    let piece = c.args.piece.now in
    (drop room piece, sym (take-append-drop room piece))
