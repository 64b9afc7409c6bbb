use Rattle.std.proofs.Common.{◌∙◌, sym}
use Rattle.netdb_questions.proofs.answers.occurrence_there.Goals as goal

pub returns-in_default : goal.returns-in_default
returns-in_default c = sym c.at.ensures ∙ c.in_default.is

pub returns-in-Ok : goal.returns-in-Ok
returns-in-Ok c = (c.in-Some.cell, sym c.at.ensures ∙ c.in-Some.is, c.in-Ok.ensures)
