use Rattle.std.proofs.Common.{refl}
use Rattle.netdb_commands.proofs.inputs.read_whole.Goals as goal

pub returns-in-Bytes-clause-visited : goal.returns-in-Bytes-clause-visited
returns-in-Bytes-clause-visited g c = c.in-Bytes.ensures.visited

pub returns-in-TooLarge-clause-visited : goal.returns-in-TooLarge-clause-visited
returns-in-TooLarge-clause-visited g c = λ before start. let next = c.in-TooLarge.ensures.visited before start in (next.0, (refl, next.1), next.2)

pub returns-in-Missing-clause-visited : goal.returns-in-Missing-clause-visited
returns-in-Missing-clause-visited g c = λ before start. let next = c.in-Missing.ensures.visited before start in (next.0, (refl, next.1), next.2)

pub returns-in-Failed-clause-visited : goal.returns-in-Failed-clause-visited
returns-in-Failed-clause-visited g c = λ before start. let next = c.in-Failed.ensures.visited before start in (next.0, (refl, next.1), next.2)

pub returns-in-NoMemory-clause-visited : goal.returns-in-NoMemory-clause-visited
returns-in-NoMemory-clause-visited g c = c.in-NoMemory.ensures.visited
