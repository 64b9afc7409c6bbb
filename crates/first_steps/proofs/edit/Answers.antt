use Rattle.std.proofs.Common.{◌∙◌, ap, subst, sym}
use Rattle.edit_tx.specs.Facts.{PinFacts}
use Rattle.db_core.specs.Story.{IsPinOf}
use Rattle.first_steps.proofs.PinLemmas.{over_release}
use Rattle.first_steps.proofs.edit.Goals as goal

pub release-requires-2 : goal.release-requires-2
release-requires-2 c =
    let last = c.commit-2.new.core in
    let their = c.in_ok-their_pin.their_pin in
    let our_one = c.in_ok-our_pin.ensures.pin ∙ c.add_net.ensures in
    let their_one = c.in_ok-their_pin.ensures.pin ∙ c.add_net-2.ensures in
    let kept = c.commit-2.ensures.others _ (c.commit.ensures.others _ c.in_ok-theirs.ensures.pin.is_pin) in
    let is : IsPinOf last their = subst (IsPinOf last) (sym their_one) kept in
    let one = ap (λ (p : PinFacts). p.caller) their_one ∙ c.in_ok-theirs.ensures.pin.caller_is in
    let zero = ap (λ (p : PinFacts). p.caller) our_one ∙ c.in_ok-ours.ensures.pin.caller_is in
    (over_release last c.release.new.self c.history_is_legal.ensures.history their c.in_ok-our_pin.our_pin is one zero c.release.ensures).live
