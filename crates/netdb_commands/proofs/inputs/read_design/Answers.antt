use Rattle.std.proofs.Common.{[], refl}
use Rattle.netdb_commands.proofs.InputLemmas.{design_counted, design_read}
use Rattle.netdb_commands.proofs.VisitLemmas.{design_visited}
use Rattle.netdb_commands.proofs.inputs.read_design.Goals as goal

pub returns-in-Whole-clause-read : goal.returns-in-Whole-clause-read
returns-in-Whole-clause-read g c =
    let read = c.in-Whole.ensures.ends in
    (design_read (g.F.Files.told c.read_pieces.new.files) c.args.name.now read.0 c.design_of.result read.1 read.2 (c.design_of.ensures read.0 (read.3 [] c.new-reader.ensures) read.1)).0

pub returns-in-Whole-clause-refused : goal.returns-in-Whole-clause-refused
returns-in-Whole-clause-refused g c =
    let read = c.in-Whole.ensures.ends in
    (design_read (g.F.Files.told c.read_pieces.new.files) c.args.name.now read.0 c.design_of.result read.1 read.2 (c.design_of.ensures read.0 (read.3 [] c.new-reader.ensures) read.1)).1

pub returns-in-Whole-clause-counts : goal.returns-in-Whole-clause-counts
returns-in-Whole-clause-counts g c =
    let read = c.in-Whole.ensures.ends in
    design_counted (g.F.Files.faults c.args.files.now) (g.F.Files.faults c.read_pieces.new.files) read.0 c.design_of.result (c.design_of.ensures read.0 (read.3 [] c.new-reader.ensures) read.1) (c.in-Whole.ensures.quiet tt)

pub returns-in-Whole-clause-visited : goal.returns-in-Whole-clause-visited
returns-in-Whole-clause-visited g c =
    let read = c.in-Whole.ensures.ends in
    design_visited (g.F.Files.visits c.args.files.now) (g.F.Files.visits c.read_pieces.new.files) c.args.name.now read.0 c.design_of.result (c.design_of.ensures read.0 (read.3 [] c.new-reader.ensures) read.1)
    c.in-Whole.ensures.visited

pub returns-in-TooLarge-clause-visited : goal.returns-in-TooLarge-clause-visited
returns-in-TooLarge-clause-visited g c = λ before start. let next = c.in-TooLarge.ensures.visited before start in (next.0, (refl, next.1), next.2)

pub returns-in-Missing-clause-visited : goal.returns-in-Missing-clause-visited
returns-in-Missing-clause-visited g c = λ before start. let next = c.in-Missing.ensures.visited before start in (next.0, (refl, next.1), next.2)

pub returns-in-Failed-clause-visited : goal.returns-in-Failed-clause-visited
returns-in-Failed-clause-visited g c = λ before start. let next = c.in-Failed.ensures.visited before start in (next.0, (refl, next.1), next.2)

pub returns-in-NoMemory-clause-visited : goal.returns-in-NoMemory-clause-visited
returns-in-NoMemory-clause-visited g c = c.in-NoMemory.ensures.visited
