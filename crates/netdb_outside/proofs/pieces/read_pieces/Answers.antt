use Rattle.netdb_outside.proofs.VisitLemmas.{broken_opening, not_there, opened_and_read, starved_opening}
use Rattle.netdb_outside.proofs.pieces.read_pieces.Goals as goal

pub returns-in-Ready-clause-visited : goal.returns-in-Ready-clause-visited
returns-in-Ready-clause-visited g c =
    opened_and_read (g.F.Files.visits c.args.files.now) (g.F.Files.visits c.open_file.new.self) (g.F.Files.visits c.read_rest.new.files) c.args.name.now c.args.limit c.read_rest.result c.in-Ready.ensures.visited c.read_rest.ensures.visited

pub returns-in-Missing-clause-visited : goal.returns-in-Missing-clause-visited
returns-in-Missing-clause-visited g c = not_there (g.F.Files.visits c.args.files.now) (g.F.Files.visits c.open_file.new.self) c.args.name.now c.args.limit c.in-Missing.ensures.visited

pub returns-in-Failed-clause-visited : goal.returns-in-Failed-clause-visited
returns-in-Failed-clause-visited g c = broken_opening (g.F.Files.visits c.args.files.now) (g.F.Files.visits c.open_file.new.self) c.args.name.now c.args.limit c.in-Failed.ensures.visited

pub returns-in-NoMemory-clause-visited : goal.returns-in-NoMemory-clause-visited
returns-in-NoMemory-clause-visited g c = starved_opening (g.F.Files.visits c.args.files.now) (g.F.Files.visits c.open_file.new.self) c.args.name.now c.args.limit c.in-NoMemory.ensures.visited
