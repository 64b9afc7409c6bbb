use Rattle.std.proofs.Common.{subst}
use Rattle.std.specs.Prelude.{IfOk}
use Rattle.history_check_spec.specs.Left.{Again}
use Rattle.history_turns.specs.Moves.{ComesThere}
use Rattle.history_turns.proofs.Calling.{owes_again_released, owes_released}
use Rattle.history_turns.proofs.places.owed_call.Goals as goal

pub returns-in-Owes : goal.returns-in-Owes
returns-in-Owes c r lines = rw c.in-Owes.is (owes_released c.args.core.now c.release.new.self c.args.caller r lines c.args.said.now.items c.in-Owes.pin (rw c.in-Owes.is at c.requires.at) c.release.ensures)

pub returns-in-OwesAgain : goal.returns-in-OwesAgain
returns-in-OwesAgain c r lines =
    rw c.in-OwesAgain.is (owes_again_released c.args.core.now c.release-in-OwesAgain.new.self c.args.caller r lines c.args.said.now.items c.in-OwesAgain.block _ _ c.into_parts-pin.ensures.pin c.into_parts-pin.ensures.ops (rw c.in-OwesAgain.is at c.requires.at) c.release-in-OwesAgain.ensures)

pub returns-in-Again : goal.returns-in-Again
returns-in-Again c r lines =
    rw c.in-Again.is (subst (λ ops. IfOk c.begin_again.result (ComesThere c.args.core.now c.begin_again.new.core c.args.caller r (Again c.in-Again.retries ops) lines c.args.said.now.items c.begin_again.new.said.items)) c.as_slice.ensures (c.begin_again.ensures r lines))
