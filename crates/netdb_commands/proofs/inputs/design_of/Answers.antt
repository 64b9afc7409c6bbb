use Rattle.netdb_commands.proofs.inputs.design_of.Goals as goal

pub returns-in-Err : goal.returns-in-Err
returns-in-Err c fed was size = c.refused_by.ensures fed (c.in-Err.ensures.fault fed was)
