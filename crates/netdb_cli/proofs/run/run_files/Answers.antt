use Rattle.std.proofs.Common.{List, map}
use Rattle.netdb_spec.specs.Command.{spelled}
use Rattle.netdb_cli.proofs.OutcomeLemmas.{nothing_counted, scripts_are_no_fault}
use Rattle.script_spec.specs.ScriptText.{Parts, steps_of}
use Rattle.script_spec.specs.declared.script.Step.{Step}
use Rattle.netdb_spec.specs.Visits.{script_files}
use Rattle.netdb_cli.proofs.VisitLemmas.{all_read, run_is_behind, some_stops}
use Rattle.netdb_cli.proofs.run.run_files.Goals as goal

abbrev all_steps : List Parts → List (List Step)
all_steps scripts = map (λ (script : Parts). steps_of script.lines) scripts

pub returns-in-Err-clause-writing : goal.returns-in-Err-clause-writing
returns-in-Err-clause-writing g c =
    nothing_counted (g.K.Sink.faults c.args.out.now) c.in-Err.status
    (λ is. scripts_are_no_fault (g.F.Files.told c.read_scripts.new.files) (spelled c.args.names.now) 2 c.in-Err.status c.in-Err.ensures.refused is)

pub returns-in-Ok-clause-visited : goal.returns-in-Ok-clause-visited
returns-in-Ok-clause-visited g c =
    all_read (g.F.Files.visits c.args.files.now) (g.F.Files.visits c.read_scripts.new.files) (script_files (spelled c.args.names.now)) 2 c.write_report.result
    (run_is_behind c.args.design (all_steps c.deref.result.now) (g.K.Sink.written c.args.out.now) (g.K.Sink.written c.write_report.new.out) c.write_report.result c.write_report.ensures.gives)
    c.in-Ok.ensures.visited

pub returns-in-Err-clause-visited : goal.returns-in-Err-clause-visited
returns-in-Err-clause-visited g c =
    some_stops (g.F.Files.visits c.args.files.now) (g.F.Files.visits c.read_scripts.new.files) (script_files (spelled c.args.names.now)) 2 c.in-Err.status c.in-Err.ensures.visited
