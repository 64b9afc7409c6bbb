use Rattle.edif_spec.proofs.Arrange.{arranged_valid}
use Rattle.edif_spec.proofs.text_laws.arranged_is_valid.Goals as goal

pub returns : goal.returns
returns c d valid = arranged_valid d valid
