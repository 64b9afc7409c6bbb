use Rattle.std.proofs.Common.{[]}
use Rattle.netdb_calls.proofs.Opens.{design_told, fault_told}
use Rattle.netdb_calls.proofs.opening.design_of.Goals as goal

pub returns-clause-design : goal.returns-clause-design
returns-clause-design c =
    design_told c.feed.new.self c.args.bytes.now c.finish.result (c.in-Ok.ensures [] c.new-reader.ensures) c.requires c.finish.ensures.design

pub returns-clause-fault : goal.returns-clause-fault
returns-clause-fault c = fault_told c.feed.new.self c.args.bytes.now c.finish.result (c.in-Ok.ensures [] c.new-reader.ensures) c.finish.ensures.fault
