use Rattle.std.proofs.Common.{subst}
use Rattle.netdb_spec.specs.Command.{Request, request_of, spelled}
use Rattle.netdb_spec.specs.Outcome.{Gives}
use Rattle.netdb_cli.proofs.OutcomeLemmas.{never_usage}
use Rattle.netdb_cli.proofs.WordLemmas.{asked_once}
use Rattle.netdb_spec.specs.Visits.{Adds, CommandReads}
use Rattle.netdb_spec.specs.Reads.{LeavesFiles, files_of}
use Rattle.netdb_cli.proofs.run.run_netdb.Goals as goal

pub returns-in-Some-clause-usage : goal.returns-in-Some-clause-usage
returns-in-Some-clause-usage g c = (
  λ is.
      absurd (never_usage (request_of c.in-Some.command) (g.F.Files.told c.run_command.new.files) (g.K.Sink.written c.args.out.now) (g.K.Sink.written c.run_command.new.out) c.run_command.result
      c.run_command.ensures.gives is),
  λ none. absurd (none (request_of c.in-Some.command, c.in-Some.ensures)),
)

pub returns-in-Some-clause-idle : goal.returns-in-Some-clause-idle
returns-in-Some-clause-idle g c = λ is.
    absurd (never_usage (request_of c.in-Some.command) (g.F.Files.told c.run_command.new.files) (g.K.Sink.written c.args.out.now) (g.K.Sink.written c.run_command.new.out) c.run_command.result
    c.run_command.ensures.gives is)

pub returns-in-Some-clause-gives : goal.returns-in-Some-clause-gives
returns-in-Some-clause-gives g c = λ request asked.
    subst (λ (r : Request). Gives r (g.F.Files.told c.run_command.new.files) (g.K.Sink.written c.args.out.now) (g.K.Sink.written c.run_command.new.out) c.run_command.result)
    (asked_once (spelled c.args.words.now) (request_of c.in-Some.command) request c.in-Some.ensures asked) c.run_command.ensures.gives

pub returns-in-Some-clause-due : goal.returns-in-Some-clause-due
returns-in-Some-clause-due g c = λ request asked.
    c.given_is_due.ensures (g.F.Files.told c.args.files.now) (g.F.Files.told c.run_command.new.files) request (g.K.Sink.written c.args.out.now) (g.K.Sink.written c.run_command.new.out) c.run_command.result
    c.run_command.ensures.files
    (subst (λ (r : Request). Gives r (g.F.Files.told c.run_command.new.files) (g.K.Sink.written c.args.out.now) (g.K.Sink.written c.run_command.new.out) c.run_command.result)
    (asked_once (spelled c.args.words.now) (request_of c.in-Some.command) request c.in-Some.ensures asked) c.run_command.ensures.gives)

pub returns-in-Some-clause-visited : goal.returns-in-Some-clause-visited
returns-in-Some-clause-visited g c = λ request asked.
    subst (λ (r : Request). Adds (g.F.Files.visits c.args.files.now) (g.F.Files.visits c.run_command.new.files) (CommandReads (files_of r) 1 c.run_command.result))
    (asked_once (spelled c.args.words.now) (request_of c.in-Some.command) request c.in-Some.ensures asked) c.run_command.ensures.visited

pub returns-in-Some-clause-untouched : goal.returns-in-Some-clause-untouched
returns-in-Some-clause-untouched g c = λ request asked.
    subst (λ (r : Request). LeavesFiles r (g.F.Files.told c.args.files.now) (g.F.Files.told c.run_command.new.files) (g.F.Files.faults c.args.files.now) (g.F.Files.faults c.run_command.new.files))
    (asked_once (spelled c.args.words.now) (request_of c.in-Some.command) request c.in-Some.ensures asked) c.run_command.ensures.untouched

pub returns-in-None-clause-visited : goal.returns-in-None-clause-visited
returns-in-None-clause-visited g c = λ request asked. absurd (c.in-None.ensures (request, asked))

pub returns-in-None-clause-untouched : goal.returns-in-None-clause-untouched
returns-in-None-clause-untouched g c = λ request asked. absurd (c.in-None.ensures (request, asked))
