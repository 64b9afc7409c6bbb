use Rattle.std.proofs.Common.{refl, subst, sym, arith}
use Rattle.std.specs.Prelude.{string_bytes}
use Rattle.std.proofs.lemmas.List.{length-map}
use Rattle.netdb_spec.specs.Command.{IsGood, request_of}
use Rattle.netdb_spec.specs.Outcome.{Gives}
use Rattle.netdb_spec.specs.declared.command.Command.{Command}
use Rattle.netdb_spec.specs.Visits.{Adds, CommandReads}
use Rattle.netdb_spec.specs.Reads.{LeavesFiles, files_of}
use Rattle.netdb_cli.proofs.VisitLemmas.{none_read, summary_is_behind}
use Rattle.netdb_cli.proofs.WordLemmas.{good_wanted}
use Rattle.netdb_cli.proofs.run.run_command.Goals as goal

pub show_file-requires : goal.show_file-requires
show_file-requires g c =
    (c.type_bounds.sync-R, (c.type_bounds.sync-G, good_wanted c.in-Show.name.now c.in-Show.wanted (subst (λ (command : Command). IsGood (request_of command)) c.in-Show.is c.requires)))

pub returns-in-Show-clause-gives : goal.returns-in-Show-clause-gives
returns-in-Show-clause-gives g c =
    subst (λ (command : Command). Gives (request_of command) (g.F.Files.told c.show_file.new.files) (g.K.Sink.written c.args.out.now) (g.K.Sink.written c.show_file.new.out) c.show_file.result)
    (sym c.in-Show.is) c.show_file.ensures.gives

pub returns-in-Uses-clause-gives : goal.returns-in-Uses-clause-gives
returns-in-Uses-clause-gives g c =
    subst (λ (command : Command). Gives (request_of command) (g.F.Files.told c.uses_of_file.new.files) (g.K.Sink.written c.args.out.now) (g.K.Sink.written c.uses_of_file.new.out) c.uses_of_file.result)
    (sym c.in-Uses.is) c.uses_of_file.ensures.gives

pub check_files-requires : goal.check_files-requires
check_files-requires g c =
    let good = subst (λ (command : Command). IsGood (request_of command)) c.in-Check.is c.requires in
    omega (arith, good.1, length-map c.in-Check.scripts.now string_bytes)

pub returns-in-Check-clause-gives : goal.returns-in-Check-clause-gives
returns-in-Check-clause-gives g c =
    subst (λ (command : Command). Gives (request_of command) (g.F.Files.told c.check_files.new.files) (g.K.Sink.written c.args.out.now) (g.K.Sink.written c.check_files.new.out) c.check_files.result)
    (sym c.in-Check.is) c.check_files.ensures.gives

pub returns-in-Show-clause-visited : goal.returns-in-Show-clause-visited
returns-in-Show-clause-visited g c =
    subst (λ (command : Command). Adds (g.F.Files.visits c.args.files.now) (g.F.Files.visits c.show_file.new.files) (CommandReads (files_of (request_of command)) 1 c.show_file.result)) (sym c.in-Show.is) c.show_file.ensures.visited

pub returns-in-Show-clause-untouched : goal.returns-in-Show-clause-untouched
returns-in-Show-clause-untouched g c =
    subst (λ (command : Command). LeavesFiles (request_of command) (g.F.Files.told c.args.files.now) (g.F.Files.told c.show_file.new.files) (g.F.Files.faults c.args.files.now) (g.F.Files.faults c.show_file.new.files)) (sym c.in-Show.is) tt

pub returns-in-Run-clause-visited : goal.returns-in-Run-clause-visited
returns-in-Run-clause-visited g c =
    subst (λ (command : Command). Adds (g.F.Files.visits c.args.files.now) (g.F.Files.visits c.run_on_file.new.files) (CommandReads (files_of (request_of command)) 1 c.run_on_file.result)) (sym c.in-Run.is) c.run_on_file.ensures.visited

pub returns-in-Run-clause-untouched : goal.returns-in-Run-clause-untouched
returns-in-Run-clause-untouched g c =
    subst (λ (command : Command). LeavesFiles (request_of command) (g.F.Files.told c.args.files.now) (g.F.Files.told c.run_on_file.new.files) (g.F.Files.faults c.args.files.now) (g.F.Files.faults c.run_on_file.new.files)) (sym c.in-Run.is) tt

pub returns-in-Uses-clause-visited : goal.returns-in-Uses-clause-visited
returns-in-Uses-clause-visited g c =
    subst (λ (command : Command). Adds (g.F.Files.visits c.args.files.now) (g.F.Files.visits c.uses_of_file.new.files) (CommandReads (files_of (request_of command)) 1 c.uses_of_file.result)) (sym c.in-Uses.is) c.uses_of_file.ensures.visited

pub returns-in-Uses-clause-untouched : goal.returns-in-Uses-clause-untouched
returns-in-Uses-clause-untouched g c =
    subst (λ (command : Command). LeavesFiles (request_of command) (g.F.Files.told c.args.files.now) (g.F.Files.told c.uses_of_file.new.files) (g.F.Files.faults c.args.files.now) (g.F.Files.faults c.uses_of_file.new.files)) (sym c.in-Uses.is) tt

pub returns-in-Check-clause-visited : goal.returns-in-Check-clause-visited
returns-in-Check-clause-visited g c =
    subst (λ (command : Command). Adds (g.F.Files.visits c.args.files.now) (g.F.Files.visits c.check_files.new.files) (CommandReads (files_of (request_of command)) 1 c.check_files.result)) (sym c.in-Check.is) c.check_files.ensures.visited

pub returns-in-Check-clause-untouched : goal.returns-in-Check-clause-untouched
returns-in-Check-clause-untouched g c =
    subst (λ (command : Command). LeavesFiles (request_of command) (g.F.Files.told c.args.files.now) (g.F.Files.told c.check_files.new.files) (g.F.Files.faults c.args.files.now) (g.F.Files.faults c.check_files.new.files)) (sym c.in-Check.is) tt

pub returns-in-Generate-clause-visited : goal.returns-in-Generate-clause-visited
returns-in-Generate-clause-visited g c =
    subst (λ (command : Command). Adds (g.F.Files.visits c.args.files.now) (g.F.Files.visits c.args.files.now) (CommandReads (files_of (request_of command)) 1 c.write_summary.result)) (sym c.in-Generate.is)
    (none_read (g.F.Files.visits c.args.files.now) 1 c.write_summary.result
    (summary_is_behind c.in-Generate.size (g.K.Sink.written c.args.out.now) (g.K.Sink.written c.write_summary.new.out) c.write_summary.result c.write_summary.ensures.gives))

pub returns-in-Generate-clause-untouched : goal.returns-in-Generate-clause-untouched
returns-in-Generate-clause-untouched g c =
    subst (λ (command : Command). LeavesFiles (request_of command) (g.F.Files.told c.args.files.now) (g.F.Files.told c.args.files.now) (g.F.Files.faults c.args.files.now) (g.F.Files.faults c.args.files.now)) (sym c.in-Generate.is)
    (refl, refl)
