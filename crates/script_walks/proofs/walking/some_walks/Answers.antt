use Rattle.script_walks.proofs.WalkLemmas.{some_walks_is}
use Rattle.script_walks.proofs.walking.some_walks.Goals as goal

pub returns : goal.returns
returns c = some_walks_is c.args.scripts.now c.one_walks.result c.one_walks.ensures
