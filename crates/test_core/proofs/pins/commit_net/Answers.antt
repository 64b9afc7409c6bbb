use Rattle.std.proofs.Common.{◌∙◌, subst, sym}
use Rattle.test_core.specs.Pins.{IsPinBy}
use Rattle.test_core.proofs.PinLemmas.{over_release}
use Rattle.test_core.proofs.pins.commit_net.Goals as goal

pub commit-own-requires-clause-pin : goal.commit-own-requires-clause-pin
commit-own-requires-clause-pin g c = subst (IsPinBy _ 1) (sym (c.run.ensures ∙ c.started-tx.ensures)) c.pin_head-own.ensures.pin

pub returns : goal.returns
returns g c = over_release c.commit-own.new.core c.release.new.self c.history_is_legal.ensures.history c.args.held.now c.commit-own.result c.commit-own.ensures.held c.commit-own.ensures.pin c.release.ensures
