use Rattle.std.proofs.Common.{[]}
use Rattle.netdb_spec.specs.Visits.{design_file}
use Rattle.netdb_cli.proofs.VisitLemmas.{first_read, first_stops, none_read, output_is_behind}
use Rattle.netdb_cli.proofs.run.show_file.Goals as goal

pub returns-in-Ok-clause-visited : goal.returns-in-Ok-clause-visited
returns-in-Ok-clause-visited g c =
    let new = g.F.Files.visits c.read_design.new.files in
    first_read (g.F.Files.visits c.args.files.now) new new (design_file c.args.name.now) [] 1 c.write_last.result c.in-Ok.ensures.visited
    (none_read new 2 c.write_last.result (output_is_behind c.args.wanted c.in-Ok.design (g.K.Sink.written c.args.out.now) (g.K.Sink.written c.write_last.new.out) c.write_last.result c.write_last.ensures.gives))

pub returns-in-Err-clause-visited : goal.returns-in-Err-clause-visited
returns-in-Err-clause-visited g c =
    first_stops (g.F.Files.visits c.args.files.now) (g.F.Files.visits c.read_design.new.files) (design_file c.args.name.now) [] 1 c.in-Err.status c.in-Err.ensures.visited
