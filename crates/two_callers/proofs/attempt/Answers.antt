use Rattle.std.proofs.Common.{◌∙◌, Err, ap, subst, sym}
use Rattle.edit_tx.specs.Facts.{TxFacts}
use Rattle.db_share.specs.Passes.{HasPin}
use Rattle.db_share.proofs.Keeping.{keeps_committed}
use Rattle.two_callers.proofs.attempt.Goals as goal

pub release-requires-in-Err-commit-clause-pin : goal.release-requires-in-Err-commit-clause-pin
release-requires-in-Err-commit-clause-pin g c =
    let db = c.args.db.now in
    let mid = c.pin.new.pass in
    let new = c.commit.new.pass in
    let tx = c.add_net.new.tx in
    let refused = c.in-Err-commit.ensures.answer in
    let has = subst (HasPin db mid) (sym (c.add_net.ensures ∙ ap (λ (t : TxFacts). t.pin) c.in-Ok.ensures.ok)) c.in_ok-pin.ensures.answer.has in
    let kept = keeps_committed db mid new c.in_ok-pin.ensures.on.ready tx (Err (c.in-Err-commit.error, c.in-Err-commit.tx)) refused tx.pin has in
    subst (HasPin db new) (sym (c.abandon-in-Err-commit.ensures ∙ ap (λ (t : TxFacts). t.pin) refused.1)) kept
