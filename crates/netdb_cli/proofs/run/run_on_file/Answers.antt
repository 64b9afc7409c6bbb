use Rattle.std.proofs.Common.{inr}
use Rattle.netdb_spec.specs.Command.{spelled}
use Rattle.netdb_spec.specs.Visits.{design_file, script_files}
use Rattle.netdb_cli.proofs.OutcomeLemmas.{read_stays}
use Rattle.netdb_cli.proofs.VisitLemmas.{first_read, first_stops}
use Rattle.netdb_cli.proofs.run.run_on_file.Goals as goal

pub returns-in-Ok-clause-gives : goal.returns-in-Ok-clause-gives
returns-in-Ok-clause-gives g c =
    inr (c.in-Ok.design, read_stays (g.F.Files.told c.read_design.new.files) (g.F.Files.told c.run_files.new.files) c.args.name.now c.in-Ok.design c.run_files.ensures.files c.in-Ok.ensures.read.0, c.run_files.ensures.gives)

pub returns-in-Ok-clause-visited : goal.returns-in-Ok-clause-visited
returns-in-Ok-clause-visited g c =
    first_read (g.F.Files.visits c.args.files.now) (g.F.Files.visits c.read_design.new.files) (g.F.Files.visits c.run_files.new.files) (design_file c.args.name.now) (script_files (spelled c.args.names.now)) 1 c.run_files.result c.in-Ok.ensures.visited
    c.run_files.ensures.visited

pub returns-in-Err-clause-visited : goal.returns-in-Err-clause-visited
returns-in-Err-clause-visited g c =
    first_stops (g.F.Files.visits c.args.files.now) (g.F.Files.visits c.read_design.new.files) (design_file c.args.name.now) (script_files (spelled c.args.names.now)) 1 c.in-Err.status c.in-Err.ensures.visited
