use Rattle.std.proofs.Common.{arith}
use Rattle.netdb_calls.proofs.Opens.{opens_design, opens_wrong}
use Rattle.netdb_calls.proofs.opening.open.Goals as goal

pub returns-in-Ok : goal.returns-in-Ok
returns-in-Ok c = opens_design c.args.bytes.now c.in-Ok.design c.of_design.result (omega arith) c.in-Ok.ensures.design c.of_design.ensures

pub returns-in-Err-Fault : goal.returns-in-Err-Fault
returns-in-Err-Fault c =
    opens_wrong c.args.bytes.now c.in-Err-Fault.fault c.of_fault.result (omega arith) (rw c.in-Err-Fault.field-0-is at c.in-Err-Fault.ensures.fault) c.of_fault.ensures
