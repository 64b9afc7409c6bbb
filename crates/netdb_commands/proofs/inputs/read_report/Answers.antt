use Rattle.netdb_spec.specs.declared.limits.TheConstants.{MOST_REPORT_BYTES}
use Rattle.netdb_commands.proofs.InputLemmas.{report_through}
use Rattle.netdb_commands.proofs.inputs.read_report.Goals as goal

pub returns-clause-through : goal.returns-clause-through
returns-clause-through g c = report_through (g.F.Files.told c.read_whole.new.files) c.args.name.now MOST_REPORT_BYTES c.read_whole.result c.read_whole.ensures.read
