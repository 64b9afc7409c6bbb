use Rattle.ask_spec.proofs.ClassLemmas.{classes_are_connected, no_net_has_no_pins}
use Rattle.ask_spec.proofs.laws.classes_are_told.Goals as goal

pub returns-clause-connected : goal.returns-clause-connected
returns-clause-connected c = λ d top x y valid is x_is y_is. classes_are_connected d top is valid x y x_is y_is

pub returns-clause-none : goal.returns-clause-none
returns-clause-none c = λ d top x valid is none. no_net_has_no_pins d top is valid x none
