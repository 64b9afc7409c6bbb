use Rattle.ask_spec.proofs.AnswerLemmas.{only_pins_are_there, pins_are_parted}
use Rattle.ask_spec.proofs.laws.pins_are_parted.Goals as goal

pub returns-clause-parted : goal.returns-clause-parted
returns-clause-parted c = pins_are_parted

pub returns-clause-only : goal.returns-clause-only
returns-clause-only c = only_pins_are_there
