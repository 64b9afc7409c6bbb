use Rattle.std.proofs.Common.{List, sym, subst, ◌∙◌, ◌∷◌, []}
use Rattle.script_spec.specs.Headline.{CanWalk}
use Rattle.script_spec.specs.ScriptText.{ArePlaced, Free, steps_of}
use Rattle.script_spec.specs.declared.script.ScriptLine.{ScriptLine}
use Rattle.db_share.proofs.Opened.{goes_on_twice}
use Rattle.script_run.proofs.Whole.{ends_held, has_run, is_broken_off}
use Rattle.script_run.proofs.run.run_script.Goals as goal

pub run_lines-ended-requires-clause-placed : goal.run_lines-ended-requires-clause-placed
run_lines-ended-requires-clause-placed g c = subst (λ (lines : List ScriptLine). ArePlaced Free (steps_of lines)) (sym c.lines.ensures.value) c.lines.ensures.script.placed

pub run_lines-ended-requires-clause-top : goal.run_lines-ended-requires-clause-top
run_lines-ended-requires-clause-top g c = subst (λ (lines : List ScriptLine). CanWalk c.args.db.now.base (steps_of lines ∷ [])) (sym c.lines.ensures.value) c.requires.top

pub settle-settled-requires-clause-mine : goal.settle-settled-requires-clause-mine
settle-settled-requires-clause-mine g c =
    ends_held c.args.db.now c.run_lines-ended.new.pass (steps_of c.lines.result.now) c.run_lines-ended.new.out.items c.run_lines-ended.result c.run_lines-ended.ensures.ends

pub returns-in-Ok-clause-on : goal.returns-in-Ok-clause-on
returns-in-Ok-clause-on g c = goes_on_twice c.args.db.now c.args.pass.now c.run_lines-ended.new.pass c.settle-settled.new.pass c.run_lines-ended.ensures.on c.settle-settled.ensures.on

pub returns-in-Ok-clause-ran : goal.returns-in-Ok-clause-ran
returns-in-Ok-clause-ran g c =
    rw c.of.ensures (has_run c.args.db.now c.run_lines-ended.new.pass c.settle-settled.new.pass (steps_of c.args.script.now.lines) c.run_lines-ended.new.out.items c.settle-settled.ensures.on c.run_lines-ended.result c.in-Ok.log_full
    (sym c.settle-settled.ensures.full ∙ c.in-Ok.is) (rw c.lines.ensures.value at c.run_lines-ended.ensures.ends) c.settle-settled.ensures.makes)

pub returns-in-Err-clause-on : goal.returns-in-Err-clause-on
returns-in-Err-clause-on g c = goes_on_twice c.args.db.now c.args.pass.now c.run_lines-ended.new.pass c.settle-settled.new.pass c.run_lines-ended.ensures.on c.settle-settled.ensures.on

pub returns-in-Err-clause-broken : goal.returns-in-Err-clause-broken
returns-in-Err-clause-broken g c =
    is_broken_off c.args.db.now c.run_lines-ended.new.pass c.settle-settled.new.pass (steps_of c.args.script.now.lines) c.run_lines-ended.new.out.items c.settle-settled.ensures.on c.run_lines-ended.result c.in-Err.field-0
    (sym c.settle-settled.ensures.full ∙ c.in-Err.is) (rw c.lines.ensures.value at c.run_lines-ended.ensures.ends) c.settle-settled.ensures.makes
