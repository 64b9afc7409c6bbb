use Rattle.std.proofs.Common.{◌≡◌, ◌+◌, ◌-◌, ◌++◌, ◌∙◌, ℕ, List, subst, length, arith, append_assoc, length-append}
use Rattle.netdb_outside.proofs.Takings.{takes_then}
use Rattle.netdb_outside.proofs.VisitLemmas.{read_broken, read_past, read_piece_more, read_starved, read_whole, starved_first}
use Rattle.netdb_outside.proofs.pieces.read_rest.Goals as goal

pub loop-n-preserved : goal.loop-n-preserved
loop-n-preserved g c =
    let before = c.loop-n.invariant in
    let read = before.bytes.0 in
    let next = c.in-Bytes.ensures.gives in
    let piece = next.0 in
    let long = length-append read piece in
    let had = before.bytes.1 in
    let has = next.1 in
    let count : length (read ++ piece) + (c.loop-n.left - c.in-Bytes.n) ≡ c.args.limit = (let room = c.if-n-left.true in omega arith) in
    record {
      files = c.in-Bytes.ensures.files ∙ before.files;
      bytes = (
        read ++ piece,
        count,
        takes_then (g.F.Files.told c.args.files.now) (g.F.Files.told c.loop-n.files) (g.F.Files.told c.read_piece.new.files) read piece before.bytes.2 next.4,
        λ bytes h. (let T : List ℕ → Type 0 = g.T.Taker.took c.read_piece.new.taker in subst T (append_assoc bytes read piece) (next.5 (bytes ++ read) (before.bytes.3 bytes h))),
      );
      faults = c.in-Bytes.ensures.quiet tt ∙ before.faults;
      room = before.room;
      visits = read_piece_more (g.F.Files.visits c.args.files.now) (g.F.Files.visits c.loop-n.files) (g.F.Files.visits c.read_piece.new.files) c.loop-n.left c.args.limit before.visits c.in-Bytes.n
          (let room = c.if-n-left.true in omega arith) c.in-Bytes.ensures.visited;
    }

pub returns-in-Bytes-2-clause-ends : goal.returns-in-Bytes-2-clause-ends
returns-in-Bytes-2-clause-ends g c =
    let before = c.loop-n.invariant in
    let read = before.bytes.0 in
    let next = c.in-Bytes.ensures.gives in
    let piece = next.0 in
    let long = length-append read piece in
    let had = before.bytes.1 in
    let has = next.1 in
    let most = next.3 in
    let count : length (read ++ piece) ≡ c.args.limit + 1 = (let past = c.if-n-left.false in omega arith) in
    (read ++ piece, count, takes_then (g.F.Files.told c.args.files.now) (g.F.Files.told c.loop-n.files) (g.F.Files.told c.read_piece.new.files) read piece before.bytes.2 next.4)

pub returns-in_default-clause-visited : goal.returns-in_default-clause-visited
returns-in_default-clause-visited g c = starved_first (g.F.Files.visits c.args.files.now) c.args.limit

pub returns-in-Bytes-2-clause-visited : goal.returns-in-Bytes-2-clause-visited
returns-in-Bytes-2-clause-visited g c =
    let next = c.in-Bytes.ensures.gives in
    let most = next.3 in
    read_past (g.F.Files.visits c.args.files.now) (g.F.Files.visits c.loop-n.files) (g.F.Files.visits c.read_piece.new.files) c.loop-n.left c.args.limit c.loop-n.invariant.visits c.in-Bytes.n
    (let past = c.if-n-left.false in omega arith) (omega (arith, most)) c.in-Bytes.ensures.visited

pub returns-in-End-clause-visited : goal.returns-in-End-clause-visited
returns-in-End-clause-visited g c =
    read_whole (g.F.Files.visits c.args.files.now) (g.F.Files.visits c.loop-n.files) (g.F.Files.visits c.read_piece.new.files) c.loop-n.left c.args.limit c.loop-n.invariant.visits c.in-End.ensures.visited

pub returns-in-Failed-clause-visited : goal.returns-in-Failed-clause-visited
returns-in-Failed-clause-visited g c =
    read_broken (g.F.Files.visits c.args.files.now) (g.F.Files.visits c.loop-n.files) (g.F.Files.visits c.read_piece.new.files) c.loop-n.left c.args.limit c.loop-n.invariant.visits c.in-Failed.ensures.visited

pub returns-in-NoMemory-clause-visited : goal.returns-in-NoMemory-clause-visited
returns-in-NoMemory-clause-visited g c =
    read_starved (g.F.Files.visits c.args.files.now) (g.F.Files.visits c.loop-n.files) (g.F.Files.visits c.read_piece.new.files) c.loop-n.left c.args.limit c.loop-n.invariant.visits c.in-NoMemory.ensures.visited
