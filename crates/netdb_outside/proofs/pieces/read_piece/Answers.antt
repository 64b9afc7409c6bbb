use Rattle.netdb_outside.proofs.VisitLemmas.{piece_came, piece_lost, piece_read}
use Rattle.netdb_outside.proofs.pieces.read_piece.Goals as goal

pub returns-then-is_err-clause-visited : goal.returns-then-is_err-clause-visited
returns-then-is_err-clause-visited g c =
    piece_lost (g.F.Files.told c.args.files.now) (g.F.Files.told c.read_front-got.new.files) (g.F.Files.visits c.args.files.now) (g.F.Files.visits c.read_front-got.new.files) c.read_front-got.new.buf c.most_wanted-most.result c.args.allowed
    c.in-Bytes.n c.read_front-got.result c.in-Bytes.is c.read_front-got.ensures.gives c.most_wanted-most.ensures.allowed c.read_front-got.ensures.visited

pub returns-else-is_err-clause-visited : goal.returns-else-is_err-clause-visited
returns-else-is_err-clause-visited g c =
    piece_came (g.F.Files.visits c.args.files.now) (g.F.Files.visits c.read_front-got.new.files) c.args.allowed c.in-Bytes.n c.read_front-got.result c.in-Bytes.is c.read_front-got.ensures.visited

pub returns-in_default-clause-visited : goal.returns-in_default-clause-visited
returns-in_default-clause-visited g c =
    piece_read (g.F.Files.visits c.args.files.now) (g.F.Files.visits c.read_front-got.new.files) c.args.allowed c.read_front-got.result c.read_front-got.ensures.visited
