use Rattle.std.proofs.Common.{List, inr, length, map, ap, subst, arith}
use Rattle.script_spec.specs.ScriptText.{Parts, steps_of}
use Rattle.script_spec.specs.declared.script.Step.{Step}
use Rattle.netdb_spec.specs.Checked.{CheckGives}
use Rattle.netdb_spec.specs.Command.{spelled}
use Rattle.netdb_cli.proofs.OutcomeLemmas.{check_is_no_fault, nothing_counted, scripts_are_no_fault}
use Rattle.netdb_spec.specs.Visits.{script_files}
use Rattle.netdb_cli.proofs.VisitLemmas.{all_read, check_is_behind, some_stops}
use Rattle.netdb_cli.proofs.run.check_text.Goals as goal

abbrev all_steps : List Parts → List (List Step)
all_steps scripts = map (λ (script : Parts). steps_of script.lines) scripts

pub write_verdict-requires : goal.write_verdict-requires
write_verdict-requires g c = omega (arith, ap length c.of-scripts.ensures, c.in-Ok.ensures.many, c.requires)

pub returns-in-Ok-clause-gives : goal.returns-in-Ok-clause-gives
returns-in-Ok-clause-gives g c =
    let read = c.in-Ok.ensures.read in
    inr (
      all_steps c.in-Ok.scripts.items,
      read.0,
      read.1,
      subst (λ (scripts : List Parts). CheckGives c.args.design (all_steps scripts) c.args.report.now (g.K.Sink.written c.args.out.now) (g.K.Sink.written c.write_verdict.new.out) c.write_verdict.result)
          c.of-scripts.ensures c.write_verdict.ensures.gives,
    )

pub returns-in-Ok-clause-reading : goal.returns-in-Ok-clause-reading
returns-in-Ok-clause-reading g c = record {
  fault = λ word is.
      absurd (check_is_no_fault c.args.design (all_steps c.of-scripts.result) c.args.report.now (g.K.Sink.written c.args.out.now) (g.K.Sink.written c.write_verdict.new.out) word c.write_verdict.result
      c.write_verdict.ensures.gives is);
  first = λ behind. c.in-Ok.ensures.counts.first tt;
  never_falls = c.in-Ok.ensures.counts.never_falls;
}

pub returns-in-Err-clause-writing : goal.returns-in-Err-clause-writing
returns-in-Err-clause-writing g c =
    nothing_counted (g.K.Sink.faults c.args.out.now) c.in-Err.status
    (λ is. scripts_are_no_fault (g.F.Files.told c.read_scripts.new.files) (spelled c.args.names.now) 3 c.in-Err.status c.in-Err.ensures.refused is)

pub returns-in-Ok-clause-visited : goal.returns-in-Ok-clause-visited
returns-in-Ok-clause-visited g c =
    all_read (g.F.Files.visits c.args.files.now) (g.F.Files.visits c.read_scripts.new.files) (script_files (spelled c.args.names.now)) 3 c.write_verdict.result
    (check_is_behind c.args.design (all_steps c.of-scripts.result) c.args.report.now (g.K.Sink.written c.args.out.now) (g.K.Sink.written c.write_verdict.new.out) c.write_verdict.result c.write_verdict.ensures.gives)
    c.in-Ok.ensures.visited

pub returns-in-Err-clause-visited : goal.returns-in-Err-clause-visited
returns-in-Err-clause-visited g c =
    some_stops (g.F.Files.visits c.args.files.now) (g.F.Files.visits c.read_scripts.new.files) (script_files (spelled c.args.names.now)) 3 c.in-Err.status c.in-Err.ensures.visited
