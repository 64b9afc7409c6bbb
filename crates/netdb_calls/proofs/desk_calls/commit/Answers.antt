use Rattle.std.proofs.Common.{refl, Ok, Err}
use Rattle.netdb_calls.proofs.desk_calls.commit.Goals as goal

pub returns-in-Ok-Ok : goal.returns-in-Ok-Ok
returns-in-Ok-Ok c = (Ok (Ok c.in-Ok-Ok.version), rw c.in-Ok-Ok.field-0-is at c.in-Ok-Ok.ensures, (c.done.ensures, refl))

pub returns-in-Ok-Err : goal.returns-in-Ok-Err
returns-in-Ok-Err c = (Ok (Err c.in-Ok-Err.error), rw c.in-Ok-Err.field-0-is at c.in-Ok-Err.ensures, c.refused.ensures)

pub returns-in-Err : goal.returns-in-Err
returns-in-Err c = (Err c.in-Err.field-0, c.in-Err.ensures, (c.only.ensures, refl))
