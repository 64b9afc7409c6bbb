use Rattle.std.proofs.Common.{sym, subst}
use Rattle.edit_tx.specs.Facts.{PinFacts}
use Rattle.db_share.specs.Passes.{HasPin}
use Rattle.db_share.proofs.Opened.{goes_on_twice}
use Rattle.script_run.proofs.Commits.{accepted_told, commit_full, commit_short, refused_pin, refused_told}
use Rattle.script_run.proofs.blocks.commit_once.Goals as goal

pub release-requires-clause-pin : goal.release-requires-clause-pin
release-requires-clause-pin g c = let answer = c.in-Ok.ensures.answer in subst (λ (p : PinFacts). HasPin c.args.along.now.db.now c.commit.new.pass p) (sym answer.1) answer.2

pub returns-in-Ok-clause-commits : goal.returns-in-Ok-clause-commits
returns-in-Ok-clause-commits g c =
    let answer = c.in-Ok.ensures.answer in
    rw c.accepted.ensures (accepted_told c.args.along.now.db.now c.args.pass.now c.commit.new.pass c.release.new.pass c.args.out.now.items c.say_committed.new.out.items c.args.block c.requires c.say_committed.result c.in-Ok.version c.args.block.tx.replies c.in-Ok.pin
    answer.0 answer.1 c.release.ensures.answer c.say_committed.ensures.ok)

pub returns-in-Err-LogFull-default-clause-commits : goal.returns-in-Err-LogFull-default-clause-commits
returns-in-Err-LogFull-default-clause-commits g c =
    let answer = rw c.in-Err-LogFull-default.field-0-0-is at c.in-Err-LogFull-default.ensures.answer in
    rw c.filled.ensures (commit_full c.args.along.now.db.now c.args.pass.now c.commit.new.pass c.args.out.now.items c.say_log_full.new.out.items c.args.block c.requires c.say_log_full.result c.in-Err-LogFull-default.tx c.abandon.result c.abandon.ensures answer.1 answer.0 c.say_log_full.ensures.ok)

pub returns-in-Err-NoMemory-default-clause-commits : goal.returns-in-Err-NoMemory-default-clause-commits
returns-in-Err-NoMemory-default-clause-commits g c =
    let answer = rw c.in-Err-NoMemory-default.field-0-0-is at c.in-Err-NoMemory-default.ensures.answer in
    commit_short c.args.along.now.db.now c.args.pass.now c.commit.new.pass c.args.out.now.items c.args.out.now.items c.args.block c.requires c.in-Err-NoMemory-default.tx c.abandon-in-Err-NoMemory-default.result c.abandon-in-Err-NoMemory-default.ensures answer.1 answer.0

pub give_up-requires-clause-pin : goal.give_up-requires-clause-pin
give_up-requires-clause-pin g c =
    let answer = rw c.in-Err-Conflict-default.field-0-0-is at c.in-Err-Conflict-default.ensures.answer in
    refused_pin c.args.along.now.db.now c.args.pass.now c.commit.new.pass c.args.out.now.items c.args.out.now.items c.args.block c.requires c.in-Err-Conflict-default.object c.in-Err-Conflict-default.version c.in-Err-Conflict-default.tx answer.1 answer.0

pub returns-in-Err-Conflict-default-clause-commits : goal.returns-in-Err-Conflict-default-clause-commits
returns-in-Err-Conflict-default-clause-commits g c =
    let answer = rw c.in-Err-Conflict-default.field-0-0-is at c.in-Err-Conflict-default.ensures.answer in
    rw c.refused.ensures (refused_told c.args.along.now.db.now c.args.pass.now c.commit.new.pass c.give_up.new.pass c.args.out.now.items c.give_up.new.out.items c.args.block c.requires c.give_up.result c.in-Err-Conflict-default.object c.in-Err-Conflict-default.version c.in-Err-Conflict-default.tx
    answer.1 answer.0 c.give_up.ensures.on c.give_up.ensures.released c.give_up.ensures.ops c.give_up.ensures.said)

pub returns-in-Ok-clause-on : goal.returns-in-Ok-clause-on
returns-in-Ok-clause-on g c = goes_on_twice c.args.along.now.db.now c.args.pass.now c.commit.new.pass c.release.new.pass c.commit.ensures.on c.release.ensures.on

pub returns-in-Err-Conflict-default-clause-on : goal.returns-in-Err-Conflict-default-clause-on
returns-in-Err-Conflict-default-clause-on g c = goes_on_twice c.args.along.now.db.now c.args.pass.now c.commit.new.pass c.give_up.new.pass c.commit.ensures.on c.give_up.ensures.on
