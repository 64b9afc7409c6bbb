use Rattle.flat_items.proofs.TextLemmas.{front_taken}
use Rattle.flat_items.proofs.firsts.net_of.Goals as goal

pub returns-clause-front : goal.returns-clause-front
returns-clause-front c = front_taken c.args.path.now c.args.name.depth c.requires
