use Rattle.std.proofs.Common.{◌<◌, length, arith}
use Rattle.script_spec.specs.ScriptText.{steps_of}
use Rattle.script_run_spec.specs.Scripts.{all_steps}
use Rattle.script_run_all.proofs.Opening.{one_walks, own_done, steps_at}
use Rattle.script_run_all.proofs.workers.run_own.Goals as goal

pub run_script-requires-clause-top : goal.run_script-requires-clause-top
run_script-requires-clause-top g c =
    let script = c.index-scripts-number.result in
    let less : c.number-number.result < length c.args.scripts.now = omega (arith, c.number-number.ensures, c.requires.one) in
    one_walks c.args.db.now.base (all_steps c.args.scripts.now) c.number-number.result (steps_of script.lines) (steps_at c.args.scripts.now c.number-number.result script less c.index-scripts-number.is) c.requires.walks

pub returns : goal.returns
returns g c =
    let less : c.number-number.result < length c.args.scripts.now = omega (arith, c.number-number.ensures, c.requires.one) in
    own_done c.args.db.now c.args.scripts.now c.args.pass c.run_script.new.pass c.index-scripts-number.result c.number-number.result c.in_ok-transcript.transcript c.run_script.ensures.on c.number-number.ensures less
    c.index-scripts-number.is c.in_ok-transcript.ensures.ran
