use Rattle.netdb_cli.proofs.OutcomeLemmas.{nothing_counted, report_is_no_fault}
use Rattle.netdb_spec.specs.Command.{spelled}
use Rattle.netdb_spec.specs.Visits.{report_file, script_files}
use Rattle.netdb_cli.proofs.VisitLemmas.{first_read, first_stops}
use Rattle.netdb_cli.proofs.run.check_report_file.Goals as goal

pub returns-in-Err-clause-writing : goal.returns-in-Err-clause-writing
returns-in-Err-clause-writing g c =
    nothing_counted (g.K.Sink.faults c.args.out.now) c.in-Err.status
    (λ is. report_is_no_fault (g.F.Files.told c.read_report.new.files) c.args.report.now c.in-Err.status c.in-Err.ensures.refused is)

pub returns-in-Ok-clause-visited : goal.returns-in-Ok-clause-visited
returns-in-Ok-clause-visited g c =
    first_read (g.F.Files.visits c.args.files.now) (g.F.Files.visits c.read_report.new.files) (g.F.Files.visits c.check_text.new.files) (report_file c.args.report.now) (script_files (spelled c.args.names.now)) 2 c.check_text.result c.in-Ok.ensures.visited
    c.check_text.ensures.visited

pub returns-in-Err-clause-visited : goal.returns-in-Err-clause-visited
returns-in-Err-clause-visited g c =
    first_stops (g.F.Files.visits c.args.files.now) (g.F.Files.visits c.read_report.new.files) (report_file c.args.report.now) (script_files (spelled c.args.names.now)) 2 c.in-Err.status c.in-Err.ensures.visited
