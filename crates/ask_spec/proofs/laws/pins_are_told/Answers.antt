use Rattle.ask_spec.proofs.AnswerLemmas.{pins_are_told}
use Rattle.ask_spec.proofs.laws.pins_are_told.Goals as goal

pub returns : goal.returns
returns c = pins_are_told
