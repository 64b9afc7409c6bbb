use Rattle.std.proofs.Common.{sym, ◌∙◌}
use Rattle.netdb_outside.proofs.BufferedLemmas.{ran_out}
use Rattle.script_report.proofs.lines.put_event.Goals as goal

pub returns-in-Err : goal.returns-in-Err
returns-in-Err g c = ran_out c.args.out.now c.args.page.now c.run_out.new.self _ (sym c.is_stuck.ensures ∙ c.if-is_stuck.false) c.run_out.ensures
