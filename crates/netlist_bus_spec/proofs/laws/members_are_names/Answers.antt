use Rattle.netlist_bus_spec.proofs.MemberNames.{member_typed, run_name_typed}
use Rattle.netlist_bus_spec.proofs.laws.members_are_names.Goals as goal

pub returns-clause-members : goal.returns-clause-members
returns-clause-members c name k l h = member_typed name k l h

pub returns-clause-array : goal.returns-clause-array
returns-clause-array c n h l = run_name_typed n h l
