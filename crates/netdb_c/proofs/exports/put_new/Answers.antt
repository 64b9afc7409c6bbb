use Rattle.std.proofs.Common.{ap, ◌∙◌, inl, Some}
use Rattle.netdb_c.proofs.exports.put_new.Goals as goal

pub returns-in-Ok : goal.returns-in-Ok
returns-in-Ok c = inl (c.put.ensures ∙ ap Some c.in-Ok.ensures.ok, c.number.ensures)
