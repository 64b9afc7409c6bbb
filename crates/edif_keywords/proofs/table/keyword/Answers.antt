use Rattle.std.proofs.Common.{ap, ◌∙◌}
use Rattle.edif_spec.specs.Keyword.{first_spelled}
use Rattle.edif_keywords.proofs.LengthLemmas.{long_decide}
use Rattle.edif_keywords.proofs.table.keyword.Goals as goal

pub loop-keyword-init : goal.loop-keyword-init
loop-keyword-init c = let name = c.as_slice-name.result.now in ap (first_spelled name) c.of_length-candidates.ensures ∙ long_decide name
