use Rattle.netdb_spec.proofs.DueLemmas.{is_due}
use Rattle.netdb_spec.proofs.laws.given_is_due.Goals as goal

pub returns : goal.returns
returns c = is_due c.script_or_bad.ensures c.one_bad_line.ensures c.room_suffices.ensures
