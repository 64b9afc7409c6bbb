use Rattle.edif_grammar.proofs.Apart.{apart}
use Rattle.edif_grammar.proofs.laws.no_form_fits_and_fails.Goals as goal

pub returns : goal.returns
returns c = apart
