use Rattle.std.proofs.Common.{refl}
use Rattle.netdb_questions.proofs.lists.begin_insts.Goals as goal

pub returns-in-Ok : goal.returns-in-Ok
returns-in-Ok c = (c.in-Ok.path, c.in-Ok.ensures, refl)
