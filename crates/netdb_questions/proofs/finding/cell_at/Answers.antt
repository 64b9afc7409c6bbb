use Rattle.std.proofs.Common.{◌≡◌, subst}
use Rattle.netlist_schema.specs.Design.{Design}
use Rattle.ask_spec.specs.Places.{at}
use Rattle.netdb_questions.proofs.finding.cell_at.Goals as goal

pub returns : goal.returns
returns c = subst (λ (d : Design). c.cell_in.result ≡ at d c.args.path.now) c.design.ensures c.cell_in.ensures
