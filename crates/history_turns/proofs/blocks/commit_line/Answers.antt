use Rattle.std.proofs.Common.{◌≡◌, ◌++◌, ◌∙◌, ap, subst}
use Rattle.netlist_schema.specs.Design.{Design}
use Rattle.edit_tx.specs.Facts.{TxFacts}
use Rattle.script_spec.specs.Texts.{conflict_words, line}
use Rattle.db_version.specs.Shot.{Shot}
use Rattle.history_turns.specs.declared.seats.At.TheVariants as at
use Rattle.history_turns.proofs.Blocking.{commit_accepted, commit_refused}
use Rattle.history_turns.proofs.blocks.commit_line.Goals as goal

pub returns-in_ok-say_committed-in-Ok : goal.returns-in_ok-say_committed-in-Ok
returns-in_ok-say_committed-in-Ok c =
    commit_accepted c.args.core.now c.commit.new.self c.args.said.now.items c.say_committed.new.out.items c.args.block c.history_is_legal.ensures.history.legal c.requires c.in-Ok.version c.in-Ok.pin c.in-Ok.ensures c.in_ok-say_committed-in-Ok.ensures.ok

pub returns-in_ok-say_conflict-in-Err-Conflict-default : goal.returns-in_ok-say_conflict-in-Err-Conflict-default
returns-in_ok-say_conflict-in-Err-Conflict-default c =
    let answer = rw c.in-Err-Conflict-default.field-0-0-is at c.in-Err-Conflict-default.ensures in
    let said = subst (λ (d : Design). c.say_conflict.new.out.items ≡ c.args.said.now.items ++ line (conflict_words d c.in-Err-Conflict-default.object c.in-Err-Conflict-default.version)) (ap (λ (s : Shot). s.design) c.head.ensures)
    c.in_ok-say_conflict-in-Err-Conflict-default.ensures.ok in
    commit_refused c.args.core.now c.commit.new.self c.args.said.now.items c.say_conflict.new.out.items c.args.block.tx c.args.block.retries c.behind_conflict.result c.history_is_legal.ensures.history.legal c.requires c.in-Err-Conflict-default.object c.in-Err-Conflict-default.version answer.1 said
    (λ is. c.behind_conflict.ensures.spent is ∙ ap (λ (t : TxFacts). at.Owes t.pin) answer.0)
    (λ left is. c.behind_conflict.ensures.again left is ∙ ap (λ (t : TxFacts). at.OwesAgain (record { tx = t; retries = left })) answer.0)
