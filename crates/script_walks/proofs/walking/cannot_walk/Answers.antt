use Rattle.script_run_spec.specs.Scripts.{all_steps}
use Rattle.script_walks.proofs.TopLemmas.{has_a_top, has_no_top, some_copied}
use Rattle.script_walks.proofs.walking.cannot_walk.Goals as goal

pub returns-in-Some : goal.returns-in-Some
returns-in-Some c = has_a_top c.args.design.now (all_steps c.args.scripts.now) (some_copied c.top.result c.args.design.now.top _ c.in-Some.is c.top.ensures.value)

pub returns-in-None : goal.returns-in-None
returns-in-None c = has_no_top c.args.design.now (all_steps c.args.scripts.now) c.some_walks.result (cc (c.in-None.is, c.top.ensures.value)) c.some_walks.ensures
